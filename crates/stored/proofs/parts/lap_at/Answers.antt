-- `stored::parts::lap_at` meets its contract.
use Rattle.stored.specs.Parts.{lap_at}
use Rattle.stored.proofs.parts.lap_at.Goals as goal

pub returns : goal.returns
unfolding lap_at
returns c = simp (← c.pass_of-stage.ensures, ← c.spot_at.ensures, ← c.flag_at.ensures)
