-- `search::closer` meets its contract: what lies too far away is left out.
use Rattle.std.proofs.Common.{arith}
use Rattle.std.proofs.lemmas.Grind.{common_steps}
use Rattle.search.specs.Course.{closer}
use Rattle.search.proofs.closer.Goals as goal

pub returns : goal.returns
unfolding closer
returns c = grind (arith, common_steps)
