-- `trail::waiting` reads the place's two numbers.
use mathlib.Core.Path.{refl}
use Rattle.trail.specs.View.{waiting_at}
use Rattle.trail.proofs.waiting.Goals as goal

pub returns : goal.returns
unfolding waiting_at
returns c = refl
