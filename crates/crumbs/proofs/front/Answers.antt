-- `crumbs::front` returns the front part, or nothing.
use mathlib.Core.Path.{sym}
use native.Mathlib.Omega.{arith}
use lib.Seq.{length-take-le}
use Rattle.crumbs.specs.Crumb.{in_front}
use Rattle.crumbs.proofs.Crumbs.{front-whole, front-empty}
use Rattle.crumbs.proofs.front.Goals as goal

pub returns-then-capacity-len : goal.returns-then-capacity-len
returns-then-capacity-len c = front-empty _ _ (omega arith)

pub slice_bounds-result-end-2 : goal.slice_bounds-result-end-2
slice_bounds-result-end-2 c = sym (length-take-le _ _ (omega arith))

pub returns : goal.returns
unfolding in_front
returns c = front-whole _ _ (omega arith)
