-- `stored::parts::follow_at` meets its contract.
use Rattle.stored.specs.Parts.{follow_at}
use Rattle.stored.proofs.parts.follow_at.Goals as goal

pub returns : goal.returns
unfolding follow_at
returns c = simp (← c.line_of.ensures, ← c.spot_at.ensures, ← c.flag_at.ensures)
