-- `search::quick::consider` meets its contract.
use Rattle.search.proofs.quick.Leading.{square-is, leads-in, leads-out}
use Rattle.search.proofs.quick.consider.Goals as goal

pub returns-then-reaches : goal.returns-then-reaches
returns-then-reaches c line A B =
    leads-in line _ _ _ _ (c.reaches.ensures line _ A B) c.if-reaches.true
    (square-is line _ _ A B c.square.ensures)
    c.overtake.ensures

pub returns : goal.returns
returns c line A B = leads-out line _ _ _ _ (c.reaches.ensures line _ A B) c.if-reaches.false
