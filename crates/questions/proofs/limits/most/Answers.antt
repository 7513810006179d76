-- `questions::limits::most` meets its contract: the numbers are the rule's.
use mathlib.Core.Path.{refl}
use lib.Ieee.{of_bits, neg}
use Rattle.binary32.specs.Arithmetic.{constant}
use Rattle.questions.specs.Sure.{place_most, along_sure, most_sure}
use Rattle.questions.proofs.limits.most.Goals as goal

pub returns : goal.returns
unfolding most_sure place_most along_sure constant of_bits neg
returns c = refl
