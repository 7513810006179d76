-- `search::course_match::on_near` meets its contract: the stretch and the ranking are the rule's.
use lib.Ieee.{of_bits}
use Rattle.binary32.specs.Arithmetic.{constant}
use Rattle.search.specs.CourseMatch.{near_m, on_near}
use Rattle.search.proofs.course_match.on_near.Goals as goal

pub returns : goal.returns
unfolding on_near near_m constant of_bits
returns c = simp (c.nearest_within.ensures, c.around.ensures)
