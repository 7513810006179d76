-- `search::rows::squares_from` works out each square.
use mathlib.Core.Path.{refl}
use native.Mathlib.Omega.{arith}
use Rattle.search.proofs.rows.Filling.{worked-next, worked-end}
use Rattle.search.proofs.rows.squares_from.Goals as goal

pub loop-k-init : goal.loop-k-init
loop-k-init c = record { within = omega arith; size = refl; each = λ k h. absurd (omega arith) }

pub overflow_add-first : goal.overflow_add-first
overflow_add-first c = omega arith

pub square_on-requires : goal.square_on-requires
square_on-requires c = omega arith

pub offset_bounds-row-k : goal.offset_bounds-row-k
offset_bounds-row-k c = omega arith

pub bounds-row-k : goal.bounds-row-k
bounds-row-k c = omega (arith, c.loop-k.invariant.size)

pub overflow_step-k : goal.overflow_step-k
overflow_step-k c = omega arith

pub loop-k-smaller : goal.loop-k-smaller
loop-k-smaller c = omega arith

pub loop-k-preserved : goal.loop-k-preserved
loop-k-preserved c = worked-next c.loop-k.invariant c.loop-k-test.true c.square_on.ensures

pub returns : goal.returns
returns c = worked-end c.loop-k.invariant c.loop-k-test.false
