-- `search::course_match::after_gap` meets its contract: the test is the rule's.
use lib.Ieee.{of_bits}
use Rattle.binary32.specs.Arithmetic.{constant}
use Rattle.std.proofs.Common.{rules}
use Rattle.search.specs.CourseMatch.{hop_m, after_gap}
use Rattle.search.proofs.course_match.Gaps.{after-gap}
use Rattle.search.proofs.course_match.after_gap.Goals as goal

pub returns : goal.returns
unfolding after_gap hop_m constant of_bits
returns c = after-gap _ c.args.p c.is_none_or.ensures (λ last k. search rules)
