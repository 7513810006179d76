-- `search::quick::reaches` meets its contract.
use mathlib.Core.Path.{refl}
use Rattle.search.proofs.quick.Leading.{reaches-is}
use Rattle.search.proofs.quick.reaches.Goals as goal

pub returns : goal.returns
returns c line end A B = reaches-is line _ end B A refl
