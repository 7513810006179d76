-- `guide::arrival_from` meets its contract.
use mathlib.Core.Path.{refl, ap, ◌∙◌}
use mathlib.Core.Bool.{Bool, ◌&&◌}
use lib.Ieee.{lt, of_bits}
use Rattle.binary32.specs.Arithmetic.{constant}
use Rattle.state.specs.State.{state_of}
use Rattle.guide.specs.Guide.{arrive_m, leave_m, off_cleared, arrival_from}
use Rattle.guide.specs.View.{holding}
use Rattle.guide.proofs.Arriving.{tells, left-or-there, arrived-now, away}
use Rattle.guide.proofs.arrival_from.Goals as goal
use Rattle.guide.proofs.arrival_from.Goals.{else-long-via-then-long+else-direct, else-long-via-else-long}

pub returns-then-h : goal.returns-then-h
unfolding leave_m constant of_bits
returns-then-h c = λ l b. let g = c.args in let h = g.h.now in
    tells (arrival_from h.arrived g.long g.direct g.e) l h b _ g.e
    (left-or-there g.long g.direct g.e (holding l (state_of h b)) c.if-h.true) refl refl

pub returns-then-direct : goal.returns-then-direct
unfolding arrive_m constant of_bits off_cleared
returns-then-direct c = λ l b. let g = c.args in let h = g.h.now in
    tells (arrival_from h.arrived g.long g.direct g.e) l h b _ _
    (arrived-now g.long g.direct g.e (holding l (state_of h b)) c.if-h.false c.if-long.true c.if-direct.true) refl refl

pub returns : goal.returns
unfolding arrive_m constant of_bits
returns c = λ l b. let g = c.args in let h = g.h.now in
    tells (arrival_from h.arrived g.long g.direct g.e) l h b h g.e
    (away g.long g.direct g.e (holding l (state_of h b)) c.if-h.false (elim c.else-long.branch [
      | else-long-via-then-long+else-direct w ↦ ap (λ (x : Bool). x && lt g.direct arrive_m) w.if-long.true ∙ w.if-direct.false
      | else-long-via-else-long w ↦ ap (λ (x : Bool). x && lt g.direct arrive_m) w.if-long.false
    ])) refl refl
