-- `course::framed` meets its contract: the fix, seen from the origin or from itself.
use mathlib.Core.Path.{ap, ◌∙◌}
use Rattle.plane.specs.declared.Fix.{Fix}
use Rattle.plane.specs.Fix.{frame}
use Rattle.course.specs.Fix.{framed}
use Rattle.course.proofs.Fixes.{framed-by}
use Rattle.course.proofs.framed.Goals as goal

pub returns : goal.returns
unfolding framed
returns c =
    let g = c.args in
    c.frame.ensures ∙ ap (λ (x : Fix). frame x g.f.east_per_e7 g.fix) c.unwrap_or.ensures
    ∙ framed-by g.f.origin g.f.east_per_e7 g.fix
