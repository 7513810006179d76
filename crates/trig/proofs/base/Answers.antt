-- `trig::base` meets its contract: each answer by the test that led there.
use Rattle.trig.specs.Fix.{base}
use Rattle.trig.proofs.Constants.{zero_is, quarter_pi-is, tan_eighth_pi-is}
use Rattle.trig.proofs.base.Goals as goal

pub returns-then-q : goal.returns-then-q
unfolding base
returns-then-q c = rw (← tan_eighth_pi-is, c.if-q.true, base) quarter_pi-is

pub returns-else-q : goal.returns-else-q
unfolding base
returns-else-q c = rw (← tan_eighth_pi-is, c.if-q.false, base) zero_is
