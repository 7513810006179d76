-- `trig::atan2f` meets its contract: each answer by the tests that led there.
use lib.Ieee.{of_bits}
use Rattle.trig.specs.Fix.{angle}
use Rattle.trig.proofs.atan2f.Goals as goal
use Rattle.trig.proofs.atan2f.Goals.{else-east-via-then-east+else-north, else-east-via-else-east}

pub returns-then-north : goal.returns-then-north
unfolding of_bits angle
returns-then-north c = rw (c.if-east.true, c.if-north.true, angle)

pub returns-else-east : goal.returns-else-east
unfolding of_bits angle
returns-else-east c =
    elim c.else-east.branch [
      | else-east-via-then-east+else-north w ↦ rw (c.direction.ensures, w.if-east.true, w.if-north.false, angle)
      | else-east-via-else-east w ↦ rw (c.direction.ensures, w.if-east.false, angle)
    ]
