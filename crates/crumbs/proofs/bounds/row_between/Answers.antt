-- `crumbs::bounds::row_between` tests each number.
use Rattle.crumbs.proofs.bounds.Rows.{tested-start, tested-next, tested-end}
use Rattle.crumbs.proofs.bounds.row_between.Goals as goal

pub loop-k-init : goal.loop-k-init
loop-k-init c = tested-start

pub loop-k-preserved : goal.loop-k-preserved
loop-k-preserved c = tested-next c.loop-k.invariant c.loop-k-test.true

pub returns : goal.returns
returns c = tested-end c.loop-k.invariant c.loop-k-test.false
