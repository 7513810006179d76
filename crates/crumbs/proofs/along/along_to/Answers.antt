-- `crumbs::along::along_to` adds the distance.
use Rattle.crumbs.specs.Along.{along_to}
use Rattle.crumbs.proofs.along.along_to.Goals as goal

pub returns : goal.returns
unfolding along_to
returns c = simp (c.distance.ensures, c.from.ensures)
