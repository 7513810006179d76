-- `stored::parts::motion_at` meets its contract.
use Rattle.stored.specs.Parts.{motion_at}
use Rattle.stored.proofs.parts.motion_at.Goals as goal

pub returns : goal.returns
unfolding motion_at
returns c = simp (← c.spot_at.ensures, ← c.heading_at.ensures)
