-- `segments::turns::turned` meets its contract: in 32 bits nothing overflows.
use mathlib.Core.Path.{refl}
use Rattle.segments.specs.Turn.{turned}
use Rattle.segments.proofs.turns.turned.Goals as goal

pub returns : goal.returns
unfolding turned
returns c = refl
