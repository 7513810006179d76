-- `motion::track_heading` meets its contract: the test is the rule's.
use lib.Ieee.{of_bits}
use Rattle.binary32.specs.Arithmetic.{constant}
use Rattle.motion.specs.Heading.{heading_step_m, track_heading}
use Rattle.motion.proofs.track_heading.Goals as goal

pub returns-then-distance : goal.returns-then-distance
unfolding track_heading heading_step_m constant of_bits
returns-then-distance c =
    simp (← c.spot_or-from.ensures, ← c.distance.ensures, c.if-distance.true, c.renewed.ensures)

pub returns-else-distance : goal.returns-else-distance
unfolding track_heading heading_step_m constant of_bits
returns-else-distance c =
    simp (← c.spot_or-from.ensures, ← c.distance.ensures, c.if-distance.false, c.aged.ensures)
