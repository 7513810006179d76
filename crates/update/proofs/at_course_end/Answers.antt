-- `update::at_course_end` meets its contract.
use mathlib.Core.Path.{sym, ◌∙◌}
use mathlib.Core.Bool.{true≢false}
use lib.Ieee.{of_bits}
use Rattle.binary32.specs.Arithmetic.{constant}
use Rattle.guide.specs.Guide.{arrive_m}
use Rattle.update.specs.Update.{course_end_m}
use Rattle.update.proofs.Deciding.{course-ends, far-from-course, no-course}
use Rattle.update.proofs.at_course_end.Goals.{then-on_course, else-on_course}
use Rattle.update.proofs.at_course_end.Goals as goal

pub returns-then-near : goal.returns-then-near
unfolding course_end_m arrive_m constant of_bits
returns-then-near c = λ s is.
    let g = c.args in
    elim c.if-on_course.branch [
      | then-on_course w ↦
          course-ends g.near g.on s is (sym c.on_course.ensures ∙ w.if-on_course.true) (sym w.value-is ∙ c.if-near.true)
      | else-on_course w ↦ absurd (true≢false (sym c.if-near.true ∙ w.value-is ∙ w.if-on_course.false))
    ]

pub returns-else-near : goal.returns-else-near
unfolding course_end_m constant of_bits
returns-else-near c = λ s is.
    let g = c.args in
    c.if-near.false
    ∙ elim c.if-on_course.branch [
      | then-on_course w ↦
          far-from-course g.near g.on s is (sym c.on_course.ensures ∙ w.if-on_course.true) (sym w.value-is ∙ c.if-near.false)
      | else-on_course w ↦ no-course g.near g.on s is (sym c.on_course.ensures ∙ w.if-on_course.false)
    ]
