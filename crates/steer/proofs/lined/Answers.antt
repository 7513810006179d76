-- `steer::lined` meets its contract.
use mathlib.Core.Path.{refl}
use Rattle.calls.specs.Line.{lined}
use Rattle.steer.proofs.lined.Goals as goal

pub returns : goal.returns
unfolding lined
returns c = refl
