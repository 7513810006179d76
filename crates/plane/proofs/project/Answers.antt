-- `plane::project` meets its contract: the test is that of `share`.
use Rattle.std.proofs.Common.{ap, ◌∙◌}
use lib.Ieee.{of_bits}
use Rattle.plane.specs.Plane.{at_share, project}
use Rattle.plane.proofs.Segment.{long, short}
use Rattle.plane.proofs.project.Goals as goal

pub returns-then-length : goal.returns-then-length
unfolding project of_bits
returns-then-length c =
    let g = c.args in
    c.at_share.ensures
    ∙ ap (at_share g.a g.b) (c.clamp-t.ensures ∙ long g.p g.a g.b c.if-length.true)

pub returns-else-length : goal.returns-else-length
unfolding project of_bits
returns-else-length c =
    let g = c.args in
    c.at_share-else-length.ensures ∙ ap (at_share g.a g.b) (short g.p g.a g.b c.if-length.false)
