-- `segments::costs::plain` meets its contract: the cost is the rule's.
use mathlib.Core.Path.{refl}
use Rattle.segments.specs.Cost.{plain}
use Rattle.segments.proofs.costs.plain.Goals as goal

pub returns : goal.returns
unfolding plain
returns c = refl
