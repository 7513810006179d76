-- `trig::eastward` meets its contract: each answer by the test that led there.
use Rattle.trig.specs.Fix.{eastward}
use Rattle.trig.proofs.Constants.{half_pi-is}
use Rattle.trig.proofs.eastward.Goals as goal

pub returns-then-e-n : goal.returns-then-e-n
unfolding eastward
returns-then-e-n c = rw (half_pi-is, c.if-e-n.true, eastward)

pub returns-else-e-n : goal.returns-else-e-n
unfolding eastward
returns-else-e-n c = rw (c.if-e-n.false, eastward)
