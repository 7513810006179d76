-- `questions::limits::guide_fits` meets its contract: the tests are the rule's.
use Rattle.calls.specs.Questions.{guide_fits}
use Rattle.questions.proofs.limits.guide_fits.Goals as goal

pub returns : goal.returns
unfolding guide_fits
returns c = simp (← c.heading_fits.ensures)
