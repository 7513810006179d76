-- `questions::limits::crumb_fits` meets its contract: the tests are the rule's.
use Rattle.calls.specs.Questions.{crumb_fits}
use Rattle.questions.proofs.limits.crumb_fits.Goals as goal

pub returns : goal.returns
unfolding crumb_fits
returns c = simp (← c.from.ensures, ← c.place_fits.ensures, ← c.along_fits.ensures)
