-- `questions::counts::segment_fits` meets its contract: the tests are the rule's.
use mathlib.Core.Path.{refl}
use Rattle.calls.specs.Questions.{segment_fits}
use Rattle.questions.proofs.counts.segment_fits.Goals as goal

pub returns : goal.returns
unfolding segment_fits
returns c = refl
