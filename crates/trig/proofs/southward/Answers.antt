-- `trig::southward` meets its contract: each answer by the test that led there.
use Rattle.trig.specs.Fix.{southward}
use Rattle.trig.proofs.Constants.{zero_is, pi-is}
use Rattle.trig.proofs.southward.Goals as goal

pub returns-then-north : goal.returns-then-north
unfolding southward
returns-then-north c = rw (pi-is, ← zero_is, c.if-north.true, southward)

pub returns-else-north : goal.returns-else-north
unfolding southward
returns-else-north c = rw (← zero_is, c.if-north.false, southward)
