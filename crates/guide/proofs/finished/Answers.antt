-- `guide::finished` meets its contract.
use mathlib.Core.Path.{refl}
use Rattle.guide.proofs.Showing.{tells-shown}
use Rattle.guide.proofs.finished.Goals as goal

pub returns : goal.returns
returns c = λ b.
    let g = c.args in
    tells-shown g.h.now b g.crumbs.now g.course.now g.p g.w g.e c.start.ensures
    c.goal_on-goal.ensures
    c.distance-direct.ensures
    c.on_course.ensures
    c.long_enough-long.ensures
    (c.arrival_from-told.ensures g.crumbs.now b)
    (c.guide_at.ensures b) refl refl refl
