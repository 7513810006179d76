-- `plane::off_segment` meets its contract.
use Rattle.std.proofs.Common.{ap, ◌∙◌}
use Rattle.plane.specs.declared.Projection.{Projection}
use Rattle.plane.specs.Plane.{distance, off_segment}
use Rattle.plane.proofs.off_segment.Goals as goal

pub returns : goal.returns
unfolding off_segment
returns c =
    c.distance.ensures
    ∙ ap (λ (q : Projection). distance c.args.p q.point) c.project.ensures
