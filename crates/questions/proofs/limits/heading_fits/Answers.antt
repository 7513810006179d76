-- `questions::limits::heading_fits` meets its contract: the test is the rule's.
use Rattle.std.proofs.Common.{rules}
use Rattle.calls.specs.Questions.{heading_fits}
use Rattle.questions.proofs.limits.heading_fits.Goals as goal

pub returns : goal.returns
unfolding heading_fits
returns c = search rules
