-- `trig::near_cos` meets its contract: its operations are the rule's, and so are its constants.
use Rattle.trig.specs.Fix.{near_cos}
use Rattle.trig.proofs.Constants.{half_is, one-is, cos8-is, cos6-is, cos4-is}
use Rattle.trig.proofs.near_cos.Goals as goal

pub returns : goal.returns
unfolding near_cos
returns c = simp (cos8-is, cos6-is, cos4-is, half_is, one-is)
