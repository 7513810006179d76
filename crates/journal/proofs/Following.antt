-- Following begun and ended: the breadcrumb is followed from a segment of it, and cut to a crumb or more. Assumes nothing.
use Prim.Native.Nat.{ℕ, ◌-◌, ◌≤◌}
use mathlib.Core.Path.{◌≡◌, refl, sym}
use mathlib.Core.Bool.{Bool, true, false, cond, and-eq-true_iff}
use mathlib.Core.List.{List}
use native.Mathlib.Omega.{arith}
use borrow.Author.Tests.{leb-true}
use lib.ListN.{length, length-take}
use Rattle.std.specs.Prelude.{Option, Some, None}
use Rattle.plane.specs.declared.Point.{Point}
use Rattle.crumbs.specs.declared.Crumb.{Crumb}
use Rattle.trail.specs.Trail.{Track}
use Rattle.trail.proofs.Theorems as track
use Rattle.trail.proofs.Theorems.{Holding, holding}
use Rattle.state.specs.declared.Line.{Line}
use Rattle.state.specs.declared.Line.TheVariants as line
use Rattle.state.specs.State.{State}
use Rattle.state.specs.Rule.{Done, done}
use Rattle.follow.specs.Parts.{leads, stopped}
use Rattle.follow.specs.Engage.{engage_at, engage, cut_to, leave_at, forgotten, stop_nothing, stop_course, stop_breadcrumb, stop_on, stop}
use Rattle.journal.proofs.Trace.{front, cut}
use Rattle.journal.proofs.Sound.{Holds, Ran, Good, Quiet, still, quiet}
use Rattle.journal.proofs.Recording.{keep-good}

-- ---- begun
-- a breadcrumb that leads anywhere has a last segment
last-segment : (l : List Crumb) → leads l ≡ true → 1 ≤ length l - 1
unfolding leads
last-segment l e = omega (arith, leb-true 2 (length l) ((and-eq-true_iff _ _).0 e).0)

module _ {C : ℕ} where
  pub engaged : (course : List Crumb) (on : Line) (end now : ℕ) (s : State) → Holds C s → (on ≡ line.Breadcrumb → 1 ≤ end)
      → Quiet C (holding s.track) (engage_at course on end now s)
  unfolding engage_at
  engaged course on end now s h some = record { same = refl; sound = record { track = h.track; segment = some; back = h.back } }

  pub engage-good : (course : List Crumb) (now : ℕ) → Good C (engage course now)
  unfolding engage
  engage-good course now s h = by (leads s.track.crumbs) refl
    where
      by : (b : Bool) → leads s.track.crumbs ≡ b
          → Ran C (holding s.track)
          (cond b (done true (engage_at course line.Breadcrumb (length s.track.crumbs - 1) now s)) (done false s))
      by true e = quiet true (engaged course line.Breadcrumb _ now s h (λ _. last-segment s.track.crumbs e))
      by false e = still false s h

-- ---- another line is not the breadcrumb
pub nothing-followed : {A : Type 0} → line.Nothing ≡ line.Breadcrumb → A
nothing-followed e = cc

pub course-followed : {A : Type 0} → line.Course ≡ line.Breadcrumb → A
course-followed e = cc

-- ---- ended
module _ {C : ℕ} where
  pub stop-nothing : (s : State) → Holds C s → Quiet C (holding s.track) (stop_nothing s)
  unfolding stop_nothing stopped
  stop-nothing s h = record { same = refl; sound = record { track = h.track; segment = nothing-followed; back = h.back } }

  pub stop-course : (s : State) → Holds C s → Quiet C (holding s.track) (stop_course s)
  unfolding stop_course stopped
  stop-course s h = record { same = refl; sound = record { track = h.track; segment = nothing-followed; back = h.back } }

  pub cut-sound : (n : ℕ) (s : State) → Holds C s → Holds C (cut_to n s)
  unfolding cut_to
  cut-sound n s h =
      record {
        track =
            record {
              held = omega (arith, length-take n s.track.crumbs, h.track.held);
              waiting = h.track.waiting;
              tolerance = h.track.tolerance;
            };
        segment = h.segment;
        back = h.back;
      }

  -- nothing waits, and no turn-round is counted
  pub forgotten-sound : (t : Track) → track.Sound C t → track.Sound C (forgotten t)
  unfolding forgotten
  forgotten-sound t h = record { held = h.held; waiting = omega arith; tolerance = h.tolerance }

  -- a cut to a crumb or more, and then what is done to what is left
  pub cut-then : {A : Type 0} (n : ℕ) (x : Holding) (d : Done A) → 1 ≤ n → Ran C (front n x) d → Ran C x d
  cut-then n x d some r = record { trace = cut n some r.trace; sound = r.sound }

module _ (C : ℕ) (least : 3 ≤ C) where
  leave-good : (matched : Option Point) (segment : ℕ) → 1 ≤ segment → Good C (leave_at C matched segment)
  unfolding leave_at cut_to
  leave-good None segment some s h = still tt s h
  leave-good (Some p) segment some s h =
      cut-then segment (holding s.track) _ some (keep-good C least p (cut_to segment s) (cut-sound segment s h))

  stop-breadcrumb : (s : State) → Holds C s → 1 ≤ s.follow.segment → Ran C (holding s.track) (stop_breadcrumb C s)
  unfolding stop_breadcrumb stopped forgotten
  stop-breadcrumb s h some =
      leave-good s.follow.matched s.follow.segment some _
      (record { track = forgotten-sound s.track h.track; segment = nothing-followed; back = λ n. absurd (omega arith) })

  stop-on : (l : Line) (s : State) → l ≡ s.follow.line → Holds C s → Ran C (holding s.track) (stop_on l C s)
  unfolding stop_on
  stop-on line.Nothing s e h = quiet tt (stop-nothing s h)
  stop-on line.Course s e h = quiet tt (stop-course s h)
  stop-on line.Breadcrumb s e h = stop-breadcrumb s h (h.segment (sym e))

  pub stop-good : Good C (stop C)
  unfolding stop
  stop-good s h = stop-on s.follow.line s refl h
