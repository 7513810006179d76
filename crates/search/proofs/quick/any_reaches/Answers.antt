-- `search::quick::any_reaches` tests each segment.
use native.Mathlib.Omega.{arith}
use Rattle.search.proofs.quick.Passing.{tested-start, tested-next, tested-end}
use Rattle.search.proofs.quick.any_reaches.Goals as goal

pub loop-k-init : goal.loop-k-init
loop-k-init c = tested-start

pub overflow_sub-end : goal.overflow_sub-end
overflow_sub-end c = omega arith

pub overflow_sub-end-in-loop-k : goal.overflow_sub-end-in-loop-k
overflow_sub-end-in-loop-k c = omega arith

pub crumb-a-requires : goal.crumb-a-requires
crumb-a-requires c = omega arith

pub overflow_sub-end-in-loop-k-2 : goal.overflow_sub-end-in-loop-k-2
overflow_sub-end-in-loop-k-2 c = omega arith

pub crumb-b-requires : goal.crumb-b-requires
crumb-b-requires c = omega arith

pub overflow_step-k : goal.overflow_step-k
overflow_step-k c = omega arith

pub loop-k-smaller : goal.loop-k-smaller
loop-k-smaller c = omega arith

pub loop-k-preserved : goal.loop-k-preserved
loop-k-preserved c =
    tested-next c.loop-k.invariant c.loop-k-test.true
    (c.reaches-any.ensures _ _ c.crumb-a.ensures c.crumb-b.ensures)

pub returns : goal.returns
returns c = tested-end c.loop-k.invariant c.loop-k-test.false
