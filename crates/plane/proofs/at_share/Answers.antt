-- `plane::at_share` meets its contract: each operation is the rule's.
use Rattle.std.proofs.Common.{refl}
use Rattle.plane.specs.Plane.{at_share, between}
use Rattle.plane.proofs.at_share.Goals as goal

pub returns : goal.returns
unfolding at_share between
returns c = refl
