-- `segments::meets` meets its contract: each operation is the rule's.
use Rattle.plane.specs.Plane.{between}
use Rattle.segments.specs.Segment.{meets}
use Rattle.segments.proofs.meets.Goals as goal

pub returns : goal.returns
unfolding meets between
returns c = cc
