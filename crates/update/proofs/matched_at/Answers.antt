-- `update::matched_at` meets its contract.
use mathlib.Core.Path.{refl, ap, ◌∙◌}
use mathlib.Core.Bool.{Bool}
use Rattle.matching.specs.Match.{off_event}
use Rattle.guide.proofs.Showing.{tells-held}
use Rattle.update.proofs.Matching.{matches}
use Rattle.update.proofs.matched_at.Goals as goal

pub returns : goal.returns
returns c = λ b held on.
    let g = c.args in
    let was = g.h.now.follow in
    let is_due = ap (λ (y : Bool). off_event was.off c.off_now-off.result y) c.due.ensures in
    matches g.course.now g.p g.now_ms g.near g.h.now b on
    c.off_now-off.ensures
    (c.off_event-e.ensures ∙ is_due)
    c.way_on-w.ensures
    c.follow_matched-h.ensures
    c.course_matched-h.ensures
    refl refl refl (tells-held held (c.finished.ensures b))
