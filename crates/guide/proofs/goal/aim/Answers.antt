-- `guide::goal::aim` meets its contract.
use lib.Ieee.{of_bits}
use Rattle.guide.specs.Goal.{aim}
use Rattle.guide.proofs.goal.aim.Goals as goal

pub returns-then-distance : goal.returns-then-distance
unfolding aim of_bits
returns-then-distance c = simp (← c.distance.ensures, c.if-distance.true)

pub returns : goal.returns
unfolding aim of_bits
returns c = simp (← c.distance.ensures, c.if-distance.false)
