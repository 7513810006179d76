-- `trig::far_cos` meets its contract: its operations are the rule's, and so are its constants.
use Rattle.trig.specs.Fix.{far_cos}
use Rattle.trig.proofs.Constants.{sin7-is, sin5-is, sin3-is}
use Rattle.trig.proofs.far_cos.Goals as goal

pub returns : goal.returns
unfolding far_cos
returns c = simp (sin7-is, sin5-is, sin3-is)
