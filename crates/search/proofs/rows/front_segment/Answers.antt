-- `search::rows::front_segment` meets its contract: what no number looked at is less than.
use native.Mathlib.Omega.{arith}
use Rattle.search.proofs.rows.Filling.{least_start, least-next}
use Rattle.search.proofs.rows.Fronting.{one-of-row}
use Rattle.search.proofs.rows.front_segment.Goals as goal

pub loop-k-init : goal.loop-k-init
loop-k-init c = (omega arith, least_start)

pub loop-k-smaller : goal.loop-k-smaller
loop-k-smaller c = omega arith

pub loop-k-preserved : goal.loop-k-preserved
loop-k-preserved c =
    (omega (arith, c.loop-k-test.true), least-next c.loop-k.invariant.1 c.lesser-before.ensures)

pub overflow_add-result : goal.overflow_add-result
overflow_add-result c = omega arith

pub returns : goal.returns
returns c = λ ends v.
    one-of-row ends c.loop-k.invariant.0 c.squares_from-row.ensures c.loop-k.invariant.1 v
