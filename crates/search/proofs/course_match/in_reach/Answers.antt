-- `search::course_match::in_reach` meets its contract: the stretch is the rule's.
use lib.Ieee.{of_bits}
use Rattle.binary32.specs.Arithmetic.{constant}
use Rattle.search.specs.CourseMatch.{jump_m, in_reach}
use Rattle.search.proofs.course_match.in_reach.Goals as goal

pub returns : goal.returns
unfolding in_reach jump_m constant of_bits
returns c = simp (c.nearest_within.ensures, c.around.ensures)
