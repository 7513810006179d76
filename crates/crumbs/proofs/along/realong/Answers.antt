-- `crumbs::along::realong` recomputes along from the second crumb on.
use Rattle.crumbs.proofs.along.Line.{going_start, going_on, going_end}
use Rattle.crumbs.proofs.along.realong.Goals as goal

pub loop-i-init : goal.loop-i-init
loop-i-init c = going_start c.requires

pub loop-i-preserved : goal.loop-i-preserved
loop-i-preserved c =
    going_on c.loop-i.invariant c.loop-i-test.true c.put.ensures
    c.crumb_at-a.ensures
    c.point_at-p.ensures c.along_to.ensures

pub returns : goal.returns
returns c = going_end c.loop-i.invariant c.loop-i-test.false
