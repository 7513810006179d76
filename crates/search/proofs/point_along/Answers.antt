-- `search::point_along` meets its contract: the share is the rule's.
use Rattle.plane.specs.Plane.{at_share}
use Rattle.search.specs.Along.{point_along}
use Rattle.search.proofs.point_along.Goals as goal

pub returns : goal.returns
unfolding point_along at_share
returns c = simp (c.at_share.ensures, c.from.ensures, c.from-2.ensures, c.share_along-t.ensures)
