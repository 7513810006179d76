-- `questions::counts::crumbs_fit` meets its contract: those passed and those to come are all.
use native.Mathlib.Omega.{arith}
use Rattle.questions.proofs.counts.Scans.{passing-from, passing-next, passing-end}
use Rattle.questions.proofs.counts.crumbs_fit.Goals as goal

pub least-requires : goal.least-requires
least-requires c = tt

pub most-requires : goal.most-requires
most-requires c = tt

pub leading-first-requires : goal.leading-first-requires
leading-first-requires c = c.requires

pub loop-i-init : goal.loop-i-init
loop-i-init c = passing-from c.leading-first.ensures c.least.ensures c.most.ensures

pub crumb_at-requires : goal.crumb_at-requires
crumb_at-requires c = omega arith

pub crumb_fits-ok-requires : goal.crumb_fits-ok-requires
crumb_fits-ok-requires c = tt

pub overflow_step-i : goal.overflow_step-i
overflow_step-i c = omega arith

pub loop-i-smaller : goal.loop-i-smaller
loop-i-smaller c = omega arith

pub loop-i-preserved : goal.loop-i-preserved
loop-i-preserved c = passing-next c.loop-i.invariant c.loop-i-test.true c.crumb_at.ensures
    c.crumb_fits-ok.ensures

pub returns : goal.returns
returns c = passing-end c.loop-i.invariant c.loop-i-test.false
