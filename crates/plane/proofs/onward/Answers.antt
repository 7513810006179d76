-- `plane::onward` meets its contract: the test is the rule's.
use lib.Ieee.{of_bits}
use Rattle.plane.specs.Plane.{onward}
use Rattle.plane.proofs.onward.Goals as goal

pub returns-then-turns : goal.returns-then-turns
unfolding onward of_bits
returns-then-turns c = simp c.if-turns.true

pub returns-else-turns : goal.returns-else-turns
unfolding onward of_bits
returns-else-turns c = simp c.if-turns.false
