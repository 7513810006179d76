-- `Crumbs::start` is the place of the first crumb, if there is one.
use Rattle.crumbs.proofs.held.Ends.{starts-is}
use Rattle.crumbs.proofs.held.Crumbs.start.Goals as goal

pub returns : goal.returns
returns c = starts-is _ _ c.first.ensures c.map_or.ensures
