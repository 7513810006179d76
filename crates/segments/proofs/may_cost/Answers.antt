-- `segments::may_cost` meets its contract: a segment without a cost changes nothing.
use Rattle.segments.proofs.Ranging.{flop}
use Rattle.segments.proofs.Considering.{lies-out, lies-far}
use Rattle.segments.proofs.may_cost.Goals as goal

pub returns-then-not-misses : goal.returns-then-not-misses
returns-then-not-misses c h line end best A B =
    lies-far line _ _ _ end best A B c.misses.ensures c.if-not-misses.true (c.too_far.ensures (flop _ h))

pub returns-else-not-misses : goal.returns-else-not-misses
returns-else-not-misses c h line end best A B =
    lies-out line _ _ _ end best A B c.misses.ensures c.if-not-misses.false
