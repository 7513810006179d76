-- `trig::series` meets its contract: its operations are the rule's, and so are its constants.
use Rattle.trig.specs.Fix.{series}
use Rattle.trig.proofs.Constants.{atan9-is, atan7-is, atan5-is, atan3-is}
use Rattle.trig.proofs.series.Goals as goal

pub returns : goal.returns
unfolding series
returns c = simp (atan9-is, atan7-is, atan5-is, atan3-is)
