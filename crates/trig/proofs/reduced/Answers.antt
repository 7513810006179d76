-- `trig::reduced` meets its contract: each answer by the test that led there.
use Rattle.trig.specs.Fix.{reduced}
use Rattle.trig.proofs.Constants.{one-is, tan_eighth_pi-is}
use Rattle.trig.proofs.reduced.Goals as goal

pub returns-then-q : goal.returns-then-q
unfolding reduced
returns-then-q c = rw (one-is, ← tan_eighth_pi-is, c.if-q.true, reduced)

pub returns-else-q : goal.returns-else-q
unfolding reduced
returns-else-q c = rw (← tan_eighth_pi-is, c.if-q.false, reduced)
