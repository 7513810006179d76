-- `course::waits` meets its contract.
use mathlib.Core.Path.{sym, ◌∙◌}
use borrow.Author.Tests.{lt-leb}
use native.Mathlib.Omega.{arith}
use Rattle.course.specs.Course.{fixes}
use Rattle.course.proofs.Placing.{waits-few, waits-more}
use Rattle.course.proofs.waits.Goals as goal

pub returns-then-count-ge-FEWEST : goal.returns-then-count-ge-FEWEST
returns-then-count-ge-FEWEST c =
    let s = c.args in
    c.no_origin.ensures
    ∙ sym (waits-more s.f (fixes s.lats.now s.lons.now) (omega (arith, c.count.ensures, c.if-count-ge-FEWEST.true)))

pub returns-else-count-ge-FEWEST : goal.returns-else-count-ge-FEWEST
returns-else-count-ge-FEWEST c =
    let s = c.args in
    lt-leb _ _ c.if-count-ge-FEWEST.false
    ∙ sym (waits-few s.f (fixes s.lats.now s.lons.now) (omega (arith, c.count.ensures, c.if-count-ge-FEWEST.false)))
