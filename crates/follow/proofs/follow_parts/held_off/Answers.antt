-- `follow::follow_parts::held_off` meets its contract.
use mathlib.Core.Path.{refl}
use Rattle.follow.specs.Parts.{held_off}
use Rattle.follow.proofs.follow_parts.held_off.Goals as goal

pub returns : goal.returns
unfolding held_off
returns c = refl
