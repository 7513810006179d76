-- `segments::turns::turned_from` meets its contract: a bearing is below a whole turn.
use Rattle.plane.proofs.Theorems.{bearing-below}
use Rattle.segments.specs.Turn.{turned_from}
use Rattle.segments.proofs.turns.turned_from.Goals as goal

pub turned-requires : goal.turned-requires
turned-requires c = rw c.bearing.ensures (bearing-below _ _)

pub returns : goal.returns
unfolding turned_from
returns c = cc
