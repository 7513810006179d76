-- `segments::nearest_on` meets its contract: the crumbs read are the line's.
use Rattle.segments.specs.Segment.{nearest_on}
use Rattle.segments.proofs.nearest_on.Goals as goal

pub returns : goal.returns
unfolding nearest_on
returns c = cc
