-- `binary32::max_zero` meets its contract: the test is the rule's.
use lib.Ieee.{of_bits}
use Rattle.binary32.specs.Limits.{max_zero}
use Rattle.binary32.proofs.max_zero.Goals as goal

pub returns-then-x : goal.returns-then-x
unfolding max_zero of_bits
returns-then-x c = simp c.if-x.true

pub returns-else-x : goal.returns-else-x
unfolding max_zero of_bits
returns-else-x c = simp c.if-x.false
