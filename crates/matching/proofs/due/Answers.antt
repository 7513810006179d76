-- `matching::due` meets its contract.
use Rattle.matching.specs.Match.{due}
use Rattle.matching.proofs.due.Goals as goal

pub returns-then-on_course : goal.returns-then-on_course
unfolding due
returns-then-on_course c = simp (← c.on_course.ensures, c.if-on_course.true)

pub returns : goal.returns
unfolding due
returns c = simp (← c.on_course.ensures, c.if-on_course.false, c.elapsed.ensures)
