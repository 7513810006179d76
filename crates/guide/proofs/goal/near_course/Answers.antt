-- `guide::goal::near_course` meets its contract.
use mathlib.Core.Logic.{inl, inr}
use mathlib.Core.Path.{sym, ap, ◌∙◌}
use Rattle.state.specs.declared.Line.{Line}
use Rattle.guide.specs.Goal.{near_course}
use Rattle.guide.proofs.goal.near_course.Goals as goal

pub returns-in-Nothing : goal.returns-in-Nothing
unfolding near_course
returns-in-Nothing c =
    let g = c.args in
    c.found_near.ensures ∙ sym (ap (λ (x : Line). near_course x g.course.now g.p) c.in-Nothing.is)

pub returns-in-Breadcrumb : goal.returns-in-Breadcrumb
unfolding near_course
returns-in-Breadcrumb c = elim c.in-Breadcrumb.is [ inl e ↦ rw e | inr e ↦ rw e ]
