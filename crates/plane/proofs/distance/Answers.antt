-- `plane::distance` meets its contract: what is under the root is the square.
use Rattle.std.proofs.Common.{ap, ◌∙◌}
use lib.Ieee.{binary32}
use Rattle.binary32.specs.Root.{root}
use Rattle.plane.specs.Plane.{distance}
use Rattle.plane.specs.Square.{square}
use Rattle.plane.proofs.distance.Goals as goal

pub returns : goal.returns
unfolding distance square
returns c = c.sqrtf.ensures ∙ ap (root binary32) c.square.ensures
