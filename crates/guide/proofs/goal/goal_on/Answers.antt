-- `guide::goal::goal_on` meets its contract.
use mathlib.Core.Logic.{inl, inr}
use mathlib.Core.Path.{sym, ap, ◌∙◌}
use Rattle.state.specs.declared.Line.{Line}
use Rattle.guide.specs.Goal.{goal_on}
use Rattle.guide.proofs.goal.Ending.{course-goal}
use Rattle.guide.proofs.goal.goal_on.Goals as goal

pub returns-in-Course : goal.returns-in-Course
returns-in-Course c =
    let g = c.args in
    c.start.ensures ∙ sym (course-goal g.course.now g.start) ∙ sym (ap (λ (x : Line). goal_on x g.course.now g.start) c.in-Course.is)

pub returns-in-Nothing : goal.returns-in-Nothing
unfolding goal_on
returns-in-Nothing c = elim c.in-Nothing.is [ inl e ↦ rw e | inr e ↦ rw e ]
