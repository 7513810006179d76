-- The tests of the counts, by the counts themselves, whatever the crumb buffer holds. Assumes nothing.
use Prim.Native.Nat.{ℕ, ◌≤◌}
use mathlib.Core.Path.{◌≡◌, ap}
use mathlib.Core.Bool.{true, ◌&&◌, and-eq-true_iff}
use mathlib.Core.List.{List}
use borrow.Author.Tests.{leb-true}
use lib.Dec.{leb}
use lib.Ieee.{Float}
use Rattle.crumbs.specs.Crumb.{crumbs}
use Rattle.crumbs.proofs.Crumbs.{length-crumbs}
use Rattle.trail.specs.Trail.{window_places}
use Rattle.trail.specs.declared.Trail.{Trail}
use Rattle.trail.specs.View.{track}
use Rattle.trail.proofs.Window.{length-places}
use Rattle.state.specs.declared.Follow.{Follow}
use Rattle.state.specs.declared.Homing.{Homing}
use Rattle.state.specs.State.{state_of}
use Rattle.calls.specs.Questions.{retrace_fits, counts_fit, crumbs_fit, held_fits}
use Rattle.questions.specs.Counted.{turned, counted}

-- the turn-round's, and with it the window's and the segment's
retrace-counted : (t : Trail) (w b : List Float) → retrace_fits (track t w b) ≡ turned t
unfolding retrace_fits track
retrace-counted t w b = simp length-crumbs

pub counts-counted : (h : Homing) (b : List Float) → counts_fit (state_of h b) ≡ counted h.trail h.follow h.course.line_len
unfolding counts_fit track
counts-counted h b = simp (retrace-counted, length-crumbs, length-places)

pub window-counted : (t : Trail) (f : Follow) (line_len : ℕ) → counted t f line_len ≡ true → t.window_len ≤ window_places
window-counted t f line_len e = leb-true t.window_len window_places ((and-eq-true_iff _ _).0 ((and-eq-true_iff _ _).0 e).0).0

-- the held crumbs'
pub held_counted : (C : ℕ) (h : Homing) (b : List Float)
    → held_fits C (state_of h b) ≡ (leb h.trail.len C && crumbs_fit (crumbs h.trail.len b))
unfolding held_fits track
held_counted C h b = ap (λ n. leb n C && crumbs_fit (crumbs h.trail.len b)) (length-crumbs h.trail.len b)
