-- `stored::parts::trail_at` meets its contract.
use Rattle.stored.specs.Parts.{trail_at}
use Rattle.stored.proofs.fields.Narrowing.{narrowed}
use Rattle.stored.proofs.parts.trail_at.Goals as goal

pub returns : goal.returns
unfolding trail_at
returns c = simp (c.unwrap_or.ensures, narrowed 255 _ _ c.try_from.ensures)
