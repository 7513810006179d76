-- `segments::found` meets its contract: the cost is left out.
use Rattle.std.proofs.Common.{arith}
use Rattle.std.proofs.lemmas.Grind.{common_steps}
use Rattle.segments.specs.Segment.{found}
use Rattle.segments.proofs.found.Goals as goal

pub returns : goal.returns
unfolding found
returns c = grind (arith, common_steps)
