-- `search::course_match::nearest_on_course` meets its contract: the cases are the rule's, and what is found on the near stretch is a
-- segment of the line.
use mathlib.Core.Path.{sym, ◌∙◌}
use native.Mathlib.Omega.{arith}
use Rattle.search.specs.CourseMatch.{nearest_on_course, matched}
use Rattle.search.proofs.course_match.Theorems.{near-met}
use Rattle.search.proofs.course_match.nearest_on_course.Goals as goal

pub returns-then-after_gap : goal.returns-then-after_gap
unfolding nearest_on_course
returns-then-after_gap c = simp (← c.after_gap.ensures, c.if-after_gap.true, c.in_reach.ensures, nearest_on_course)

pub returns-in_default : goal.returns-in_default
unfolding nearest_on_course matched
returns-in_default c =
    simp (
      ← c.after_gap.ensures,
      c.if-after_gap.false,
      ← c.on_near.ensures,
      c.in_default.is,
      c.in_reach-in_default.ensures,
      nearest_on_course,
    )

pub settled-requires : goal.settled-requires
settled-requires c =
    let g = c.args in
    let h = c.requires in
    let m = near-met _ g.p g.ends h.0 g.was _ (sym c.on_near.ensures ∙ c.in-Some.is) in
    record { le_from = h; le_end = (omega (arith, m.from), omega (arith, m.to)) }

pub returns : goal.returns
unfolding nearest_on_course matched
returns c =
    simp (
      ← c.after_gap.ensures,
      c.if-after_gap.false,
      ← c.on_near.ensures,
      c.in-Some.is,
      c.settled.ensures,
      nearest_on_course,
    )
