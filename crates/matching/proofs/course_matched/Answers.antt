-- `matching::course_matched` meets its contract.
use Rattle.matching.specs.Match.{course_matched}
use Rattle.matching.proofs.course_matched.Goals as goal

pub returns : goal.returns
unfolding course_matched
returns c = simp (← c.smaller.ensures)
