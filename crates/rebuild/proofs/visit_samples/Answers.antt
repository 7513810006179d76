-- `rebuild::visit_samples` meets its contract.
use native.Mathlib.Omega.{arith}
use Rattle.ride_log.specs.Entry.{used}
use Rattle.rebuild.specs.Rebuild.{is_later}
use Rattle.rebuild.proofs.Visiting.{going_start, going_on, going-out}
use Rattle.rebuild.proofs.visit_samples.Goals as goal

pub loop-sample-init : goal.loop-sample-init
loop-sample-init c = going_start c.requires.trail_fit

pub visit_sample-requires : goal.visit_sample-requires
visit_sample-requires c = c.loop-sample.invariant.made.fit

pub loop-sample-preserved : goal.loop-sample-preserved
loop-sample-preserved c = going_on c.loop-sample.invariant (omega arith) _ c.visit_sample.ensures

pub returns : goal.returns
unfolding used is_later
returns c = rw (← c.from.ensures) (going-out c.loop-sample.invariant (omega arith))
