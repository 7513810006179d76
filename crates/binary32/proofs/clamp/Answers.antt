-- `binary32::clamp` meets its contract: the library's clamp at 0 and 1 is the rule.
use lib.Ieee.{of_bits}
use Rattle.binary32.specs.Limits.{clamp}
use Rattle.binary32.proofs.clamp.Goals as goal

pub returns : goal.returns
unfolding clamp of_bits
returns c = c.clamp.ensures.value
