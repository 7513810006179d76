-- `questions::limits::least` meets its contract: the numbers are the rule's.
use mathlib.Core.Path.{refl}
use lib.Ieee.{of_bits, neg}
use Rattle.binary32.specs.Arithmetic.{constant}
use Rattle.questions.specs.Sure.{place_most, along_sure, least_sure}
use Rattle.questions.proofs.limits.least.Goals as goal

pub returns : goal.returns
unfolding least_sure place_most along_sure constant of_bits neg
returns c = refl
