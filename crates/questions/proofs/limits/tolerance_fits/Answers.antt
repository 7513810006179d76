-- `questions::limits::tolerance_fits` meets its contract: the test is the rule's.
use mathlib.Core.Path.{refl}
use lib.Ieee.{of_bits}
use Rattle.questions.proofs.limits.tolerance_fits.Goals as goal

pub returns : goal.returns
unfolding of_bits
returns c = refl
