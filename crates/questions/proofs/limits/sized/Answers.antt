-- `questions::limits::sized` meets its contract: a size is at most the bound where the number lies from the negative bound to the bound.
use mathlib.Core.Path.{◌∙◌}
use lib.Ieee.{of_bits, neg}
use Rattle.binary32.specs.Arithmetic.{constant}
use Rattle.questions.specs.Sure.{place_most}
use Rattle.questions.proofs.Exact.{sized-tested}
use Rattle.questions.proofs.limits.Numbers.{sized-within}
use Rattle.questions.proofs.limits.sized.Goals as goal

pub returns : goal.returns
unfolding place_most constant of_bits neg
returns c = sized-within _ _ c.args.x ∙ sized-tested c.args.x
