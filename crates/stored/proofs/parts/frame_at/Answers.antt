-- `stored::parts::frame_at` meets its contract.
use Rattle.stored.specs.Parts.{frame_at}
use Rattle.stored.proofs.parts.frame_at.Goals as goal

pub returns : goal.returns
unfolding frame_at
returns c = simp (← c.place_at.ensures)
