-- `matching::followed::nearest` meets its contract.
use mathlib.Core.Path.{◌∙◌, sym, ap}
use mathlib.Core.Logic.{inl, inr}
use Rattle.state.specs.declared.Line.{Line}
use Rattle.matching.proofs.followed.Lines.{nearest_by, nearest-as}
use Rattle.matching.proofs.followed.nearest.Goals as goal

pub returns-in-Course : goal.returns-in-Course
unfolding nearest_by
returns-in-Course c = λ course s i.
    let f = c.args.f.now in
    c.nearest_on_course.ensures
    ∙ sym (ap (λ (x : Line). nearest_by x f.was f.line.now c.args.p c.args.ends) c.in-Course.is)
    ∙ nearest-as i c.args.p c.args.ends

pub returns-in-Nothing : goal.returns-in-Nothing
unfolding nearest_by
returns-in-Nothing c = λ course s i.
    let f = c.args.f.now in
    elim c.in-Nothing.is [
      | inl e ↦ c.nearest_on_breadcrumb.ensures
          ∙ sym (ap (λ (x : Line). nearest_by x f.was f.line.now c.args.p c.args.ends) e) ∙ nearest-as i c.args.p c.args.ends
      | inr e ↦ c.nearest_on_breadcrumb.ensures
          ∙ sym (ap (λ (x : Line). nearest_by x f.was f.line.now c.args.p c.args.ends) e) ∙ nearest-as i c.args.p c.args.ends
    ]
