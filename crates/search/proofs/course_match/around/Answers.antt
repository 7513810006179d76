-- `search::course_match::around` meets its contract: each operation is the rule's.
use mathlib.Core.Path.{refl}
use lib.Ieee.{of_bits}
use Rattle.binary32.specs.Arithmetic.{constant}
use Rattle.search.specs.CourseMatch.{back_m, around}
use Rattle.search.proofs.course_match.around.Goals as goal

pub returns : goal.returns
unfolding around back_m constant of_bits
returns c = refl
