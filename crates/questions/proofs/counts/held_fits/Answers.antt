-- `questions::counts::held_fits` meets its contract: the count is tested first.
use borrow.Author.Tests.{le-leb, lt-leb}
use Rattle.questions.proofs.counts.held_fits.Goals as goal

pub returns-then-len-capacity : goal.returns-then-len-capacity
returns-then-len-capacity c = simp (← c.capacity.ensures, le-leb _ _ c.if-len-capacity.true) c.crumbs_fit.ensures

pub returns : goal.returns
returns c = simp (← c.capacity.ensures, lt-leb _ _ c.if-len-capacity.false)
