-- `follow::follow_parts::left` meets its contract.
use mathlib.Core.Logic.{inl, inr}
use mathlib.Core.Path.{sym, ap}
use Rattle.state.specs.declared.Line.{Line}
use Rattle.follow.specs.Parts.{ended_by_thinning}
use Rattle.follow.proofs.follow_parts.left.Goals as goal

pub returns-in-Breadcrumb : goal.returns-in-Breadcrumb
unfolding ended_by_thinning
returns-in-Breadcrumb c = sym (ap (λ (l : Line). ended_by_thinning l c.args.f) c.in-Breadcrumb.is)

pub returns-in-Nothing : goal.returns-in-Nothing
unfolding ended_by_thinning
returns-in-Nothing c = elim c.in-Nothing.is [ inl e ↦ rw e | inr e ↦ rw e ]
