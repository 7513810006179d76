-- `thin::rows::sixteen_far` tests each of the sixteen.
use native.Mathlib.Omega.{arith}
use Rattle.thin.proofs.Testing.{each_none, each-before, each_more}
use Rattle.thin.proofs.rows.sixteen_far.Goals as goal

pub loop-k-init : goal.loop-k-init
loop-k-init c = (omega arith, λ h. each_none (omega arith))

pub overflow_add-first : goal.overflow_add-first
overflow_add-first c = omega arith

pub far-all-requires : goal.far-all-requires
far-all-requires c = omega arith

pub overflow_step-k : goal.overflow_step-k
overflow_step-k c = omega arith

pub loop-k-smaller : goal.loop-k-smaller
loop-k-smaller c = omega arith

pub loop-k-preserved : goal.loop-k-preserved
loop-k-preserved c = (omega arith, each_more c.loop-k.invariant.1 c.far-all.ensures (omega arith))

pub returns : goal.returns
returns c = λ h. each-before (c.loop-k.invariant.1 h) (omega arith)
