-- `questions::counts_fit` meets its contract: the tests are the rule's.
use Rattle.questions.proofs.Counted.{counts-counted}
use Rattle.questions.proofs.counts_fit.Goals as goal

pub returns : goal.returns
returns c = λ b. simp (counts-counted, ← c.follow_fits.ensures, ← c.retrace_fits.ensures)
