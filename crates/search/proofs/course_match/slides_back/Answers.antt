-- `search::course_match::slides_back` meets its contract: the tests are the rule's.
use lib.Ieee.{of_bits}
use Rattle.binary32.specs.Arithmetic.{constant}
use Rattle.segments.specs.CostConstants.{slip_m}
use Rattle.search.specs.CourseMatch.{slides_back}
use Rattle.search.proofs.course_match.slides_back.Goals as goal

pub returns-then-near-was : goal.returns-then-near-was
unfolding slides_back slip_m constant of_bits
returns-then-near-was c = simp
    (c.if-near-was.true, c.against.ensures, c.crumb-then-near-was.ensures, c.crumb.ensures)

pub returns : goal.returns
unfolding slides_back slip_m constant of_bits
returns c = simp c.if-near-was.false
