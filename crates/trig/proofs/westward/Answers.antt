-- `trig::westward` meets its contract: each answer by the test that led there.
use Rattle.trig.specs.Fix.{westward}
use Rattle.trig.proofs.Constants.{zero_is}
use Rattle.trig.proofs.westward.Goals as goal

pub returns-then-east : goal.returns-then-east
unfolding westward
returns-then-east c = rw (← zero_is, c.if-east.true, westward)

pub returns-else-east : goal.returns-else-east
unfolding westward
returns-else-east c = rw (← zero_is, c.if-east.false, westward)
