-- `search::rows::least_of` looks at each number.
use Rattle.search.proofs.rows.Filling.{least_start, least-next, least-end}
use Rattle.search.proofs.rows.least_of.Goals as goal

pub loop-x-init : goal.loop-x-init
loop-x-init c = least_start

pub loop-x-preserved : goal.loop-x-preserved
loop-x-preserved c = least-next c.loop-x.invariant c.lesser-least.ensures

pub returns : goal.returns
returns c = least-end c.loop-x.auto.x-index-end c.loop-x-test.false c.loop-x.invariant
