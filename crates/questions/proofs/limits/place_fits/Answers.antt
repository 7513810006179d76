-- `questions::limits::place_fits` meets its contract: the tests are the rule's.
use Rattle.calls.specs.Questions.{place_fits}
use Rattle.questions.proofs.limits.place_fits.Goals as goal

pub returns : goal.returns
unfolding place_fits
returns c = simp (← c.sized.ensures, ← c.sized-2.ensures)
