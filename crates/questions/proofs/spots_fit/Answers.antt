-- `questions::spots_fit` meets its contract: the tests are the rule's.
use Rattle.calls.specs.Questions.{spots_fit}
use Rattle.questions.proofs.spots_fit.Goals as goal

pub returns : goal.returns
unfolding spots_fit
returns c = λ b. simp (
  ← c.spot_fits.ensures,
  ← c.spot_fits-2.ensures,
  ← c.spot_fits-3.ensures,
  ← c.spot_fits-4.ensures,
  ← c.spot_fits-5.ensures,
)
