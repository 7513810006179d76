-- `questions::limits::shown_fits` meets its contract: the test is the rule's.
use Rattle.questions.proofs.limits.Options.{shown-fits}
use Rattle.questions.proofs.limits.shown_fits.Goals as goal

pub returns : goal.returns
returns c = shown-fits _ _ c.is_none_or.ensures
