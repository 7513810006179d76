-- `thin::may_thin` is question 9.
use lib.Ieee.{of_bits}
use Rattle.thin.specs.Questions.{question9}
use Rattle.thin.proofs.may_thin.Goals as goal

pub returns : goal.returns
unfolding question9 of_bits
returns c = simp (c.whole.ensures, c.capacity-capacity.ensures)
