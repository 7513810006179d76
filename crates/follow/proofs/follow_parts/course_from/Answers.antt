-- `follow::follow_parts::course_from` meets its contract.
use Rattle.follow.specs.Parts.{course_from}
use Rattle.follow.proofs.follow_parts.course_from.Goals as goal

pub returns : goal.returns
unfolding course_from
returns c = simp (← c.along_at-along.ensures)
