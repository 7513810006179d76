-- `follow::follow_parts::stopped` meets its contract.
use mathlib.Core.Path.{refl}
use Rattle.follow.specs.Parts.{stopped}
use Rattle.follow.proofs.follow_parts.stopped.Goals as goal

pub returns : goal.returns
unfolding stopped
returns c = refl
