-- `crumbs::bounds::row_of` puts the crumb at each place.
use mathlib.Core.Path.{refl, sym}
use native.Mathlib.Omega.{arith}
use Rattle.crumbs.proofs.bounds.Rows.{filled_next, filled-end}
use Rattle.crumbs.proofs.bounds.row_of.Goals as goal

pub loop-i-init : goal.loop-i-init
loop-i-init c = record { within = omega arith; size = refl; each = λ k h. absurd (omega arith) }

pub slice_bounds-put-end : goal.slice_bounds-put-end
slice_bounds-put-end c = sym c.loop-i.invariant.size

pub put-requires : goal.put-requires
put-requires c = omega (arith, c.loop-i.invariant.size)

pub overflow_step-i : goal.overflow_step-i
overflow_step-i c = omega arith

pub loop-i-smaller : goal.loop-i-smaller
loop-i-smaller c = omega arith

pub loop-i-preserved : goal.loop-i-preserved
loop-i-preserved c =
    filled_next c.loop-i.invariant c.loop-i-test.true c.put.ensures

pub returns : goal.returns
returns c = filled-end c.loop-i.invariant c.loop-i-test.false
