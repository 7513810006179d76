-- `segments::cheaper` meets its contract: the test is the rule's.
use Rattle.segments.specs.Segment.{cheaper}
use Rattle.segments.proofs.cheaper.Goals as goal

pub returns-in_default : goal.returns-in_default
unfolding cheaper
returns-in_default c = simp c.in_default.is

pub returns-in_default-best : goal.returns-in_default-best
unfolding cheaper
returns-in_default-best c = simp (c.in_default-best.is, c.in-Some.is)

pub returns-then-metres-least : goal.returns-then-metres-least
unfolding cheaper
returns-then-metres-least c = simp (c.in-Some-best.is, c.in-Some.is, c.if-metres-least.true)

pub returns : goal.returns
unfolding cheaper
returns c = simp (c.in-Some-best.is, c.in-Some.is, c.if-metres-least.false)
