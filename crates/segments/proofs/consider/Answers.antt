-- `segments::consider` meets its contract: a segment is considered as the rule has it.
use Rattle.segments.proofs.Considering.{lies-out, lies_in}
use Rattle.segments.proofs.consider.Goals as goal

pub returns-then-misses : goal.returns-then-misses
returns-then-misses c line A B = lies-out line _ _ _ _ _ A B c.misses.ensures c.if-misses.true

pub returns : goal.returns
returns c line A B =
    lies_in line _ _ _ _ _ A B c.misses.ensures c.if-misses.false
    c.meets-near.ensures c.cost_of.ensures c.cheaper.ensures
