-- A match elsewhere on the line. Assumes nothing.
use mathlib.Core.Path.{◌≡◌, sym, ap, ◌∙◌}
use mathlib.Core.Bool.{true, false}
use lib.Ieee.{lt}
use Rattle.segments.specs.declared.costs.Nearest.{Nearest}
use Rattle.std.specs.Prelude.{Option, Some, None}
use Rattle.matching.specs.Match.{nearer}
use Rattle.matching.proofs.Choosing.{picked, passed-by}

pub nearer-none : (near : Nearest) (best : Option Nearest) → best ≡ None → near ≡ nearer near best
unfolding nearer
nearer-none near best e = sym (ap (λ (x : Option Nearest). nearer near x) e)

module _ (near : Nearest) (best : Option Nearest) (other : Nearest) (e : best ≡ Some other) where
  pub nearer-other : lt other.off near.off ≡ true → other ≡ nearer near best
  unfolding nearer
  nearer-other t = sym (ap (λ (x : Option Nearest). nearer near x) e ∙ picked other near (lt other.off near.off) t)

  pub nearer-own : lt other.off near.off ≡ false → near ≡ nearer near best
  unfolding nearer
  nearer-own t = sym (ap (λ (x : Option Nearest). nearer near x) e ∙ passed-by other near (lt other.off near.off) t)
