-- `questions::limits::spot_fits` meets its contract: the test is the rule's.
use Rattle.questions.proofs.limits.Options.{spot-fits}
use Rattle.questions.proofs.limits.spot_fits.Goals as goal

pub returns : goal.returns
returns c = spot-fits _ _ c.is_none_or.ensures
