-- What is asked of a value that may be missing.
use Rattle.std.proofs.Common.{◌≡◌, Bool, Option, Some, None, MatchOption, IsTrue}
use Rattle.plane.specs.declared.Point.{Point}
use Rattle.state.specs.declared.Guide.{Guide}
use Rattle.calls.specs.Questions.{guide_fits, shown_fits, place_fits, spot_fits}

pub spot-fits : (x : Option Point) (r : Bool) → MatchOption x (IsTrue r) (λ p. r ≡ place_fits p) → r ≡ spot_fits x
unfolding spot_fits
spot-fits (Some p) r e = e
spot-fits None r e = e

pub shown-fits : (x : Option Guide) (r : Bool) → MatchOption x (IsTrue r) (λ g. r ≡ guide_fits g) → r ≡ shown_fits x
unfolding shown_fits
shown-fits (Some g) r e = e
shown-fits None r e = e
