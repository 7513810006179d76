-- `binary32::as_f32` meets its contract: the float of the size, negated where the number is negative.
use Rattle.std.proofs.Common.{ap, ◌∙◌, w64}
use lib.Ieee.{neg}
use mir.ValLaws.{to_z-of_z}
use Rattle.binary32.proofs.Casting.{below_zero, not_below}
use Rattle.binary32.proofs.as_f32.Goals as goal

pub returns-then-d-lt0 : goal.returns-then-d-lt0
returns-then-d-lt0 c =
    let e = to_z-of_z w64 c.args.d c.ranges.d in
    let t = rw e at c.if-d-lt0.true in
    let size = rw (c.min.ensures, c.unsigned_abs.ensures.value, e) at c.nearest_u32_to_f32-size.ensures in
    ap neg size ∙ below_zero c.args.d t

pub returns-else-d-lt0 : goal.returns-else-d-lt0
returns-else-d-lt0 c =
    let e = to_z-of_z w64 c.args.d c.ranges.d in
    let t = rw e at c.if-d-lt0.false in
    let size = rw (c.min.ensures, c.unsigned_abs.ensures.value, e) at c.nearest_u32_to_f32-size.ensures in
    size ∙ not_below c.args.d t
