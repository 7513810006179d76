-- `course::place` meets its contract: all points, or none.
use mathlib.Core.Path.{sym, ◌∙◌}
use native.Mathlib.Omega.{arith}
use Rattle.course.specs.Course.{fixes}
use Rattle.course.proofs.Placing.{places-few, places-unplaced, places-all}
use Rattle.course.proofs.place.Goals as goal

pub returns-then-count-lt-FEWEST : goal.returns-then-count-lt-FEWEST
returns-then-count-lt-FEWEST c =
    let s = c.args in
    places-few s.f (fixes s.lats.now s.lons.now) s.line.now (omega (arith, c.count.ensures, c.if-count-lt-FEWEST.true))

pub returns-then-no_origin : goal.returns-then-no_origin
returns-then-no_origin c =
    let s = c.args in
    places-unplaced s.f (fixes s.lats.now s.lons.now) s.line.now
    (omega (arith, c.count.ensures, c.if-count-lt-FEWEST.false))
    (sym c.no_origin.ensures ∙ c.if-no_origin.true)

pub returns : goal.returns
returns c =
    let s = c.args in
    places-all s.f (fixes s.lats.now s.lons.now) (omega (arith, c.count.ensures, c.if-count-lt-FEWEST.false))
    (sym c.no_origin.ensures ∙ c.if-no_origin.false) c.place_all.ensures
