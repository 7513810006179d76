-- What is asked of a fix that may be missing. Assumes nothing.
use Rattle.std.proofs.Common.{◌≡◌, Bool, Option, Some, None, MatchOption, IsTrue}
use Rattle.plane.specs.declared.Point.{Point}
use Rattle.search.specs.CourseMatch.{after_gap}

pub after-gap : (x : Option Point) (p : Point) {r : Bool} {P : Point → Type 0} → MatchOption x (IsTrue r) P
    → ((last : Point) → P last → r ≡ after_gap (Some last) p) → r ≡ after_gap x p
unfolding after_gap
after-gap None p e f = e
after-gap (Some last) p e f = f last e
