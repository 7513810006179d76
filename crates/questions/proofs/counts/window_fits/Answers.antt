-- `questions::counts::window_fits` meets its contract: those passed fit.
use native.Mathlib.Omega.{arith}
use Rattle.questions.proofs.counts.Scans.{waiting-start, waiting-next, waiting-end}
use Rattle.questions.proofs.counts.window_fits.Goals as goal

pub loop-i-init : goal.loop-i-init
loop-i-init c = waiting-start _ _

pub waiting-requires : goal.waiting-requires
waiting-requires c = omega arith

pub place_fits-ok-requires : goal.place_fits-ok-requires
place_fits-ok-requires c = tt

pub overflow_step-i : goal.overflow_step-i
overflow_step-i c = omega arith

pub loop-i-smaller : goal.loop-i-smaller
loop-i-smaller c = omega arith

pub loop-i-preserved : goal.loop-i-preserved
loop-i-preserved c = waiting-next c.loop-i.invariant c.loop-i-test.true c.waiting.ensures
    c.place_fits-ok.ensures

pub returns : goal.returns
returns c = waiting-end c.loop-i.invariant c.loop-i-test.false
