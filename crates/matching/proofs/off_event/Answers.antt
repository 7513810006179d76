-- `matching::off_event` meets its contract.
use Rattle.matching.specs.Match.{off_event}
use Rattle.matching.proofs.off_event.Goals as goal

pub returns-then-is : goal.returns-then-is
unfolding off_event
returns-then-is c = rw (c.if-was.true, c.if-is.true) c.still_off.ensures

pub returns-then-was : goal.returns-then-was
unfolding off_event
returns-then-was c = rw (c.if-was.true, c.if-is.false)

pub returns-then-is-2 : goal.returns-then-is-2
unfolding off_event
returns-then-is-2 c = rw (c.if-was.false, c.if-is-2.true)

pub returns : goal.returns
unfolding off_event
returns c = rw (c.if-was.false, c.if-is-2.false)
