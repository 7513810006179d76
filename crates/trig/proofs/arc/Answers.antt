-- `trig::arc` meets its contract: it composes what its callees promise.
use Rattle.trig.specs.Fix.{arc}
use Rattle.trig.proofs.arc.Goals as goal

pub returns : goal.returns
unfolding arc
returns c = rw (c.series.ensures, c.reduced.ensures, c.base.ensures)
