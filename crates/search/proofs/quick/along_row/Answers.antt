-- `search::quick::along_row` meets its contract: the lead behind the segments tried.
use native.Mathlib.Omega.{arith}
use Rattle.search.proofs.quick.Passing.{over-start, over-next, over-end}
use Rattle.search.proofs.quick.along_row.Goals as goal

pub loop-k-init : goal.loop-k-init
loop-k-init c = (omega arith, over-start _ _ _ _ _)

pub overflow_sub-end : goal.overflow_sub-end
overflow_sub-end c = omega arith

pub overflow_sub-end-in-loop-k : goal.overflow_sub-end-in-loop-k
overflow_sub-end-in-loop-k c = omega arith

pub crumb-a-requires : goal.crumb-a-requires
crumb-a-requires c = omega arith

pub overflow_sub-end-in-loop-k-2 : goal.overflow_sub-end-in-loop-k-2
overflow_sub-end-in-loop-k-2 c = omega arith

pub crumb-b-requires : goal.crumb-b-requires
crumb-b-requires c = omega arith

pub overflow_sub-end-in-loop-k-3 : goal.overflow_sub-end-in-loop-k-3
overflow_sub-end-in-loop-k-3 c = omega arith

pub overflow_step-k : goal.overflow_step-k
overflow_step-k c = omega arith

pub loop-k-smaller : goal.loop-k-smaller
loop-k-smaller c = omega arith

pub loop-k-preserved : goal.loop-k-preserved
loop-k-preserved c = (
  omega (arith, c.loop-k-test.true),
  over-next _ _ _ _ _ _ c.loop-k.invariant.1
      (c.consider-leading.ensures _ c.crumb-a.ensures c.crumb-b.ensures),
)

pub returns : goal.returns
returns c = let v = c.loop-k.invariant in over-end _ _ _ _ _ _ v.0 c.loop-k-test.false v.1
