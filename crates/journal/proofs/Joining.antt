-- A fix along the course, or back along the breadcrumb: a turn-round is counted only where there are crumbs to go back to. Assumes nothing.
use Prim.Native.Nat.{ℕ, ◌+◌, ◌≤◌}
use mathlib.Core.Path.{◌≡◌, refl}
use mathlib.Core.Bool.{Bool, true, false, cond}
use mathlib.Core.List.{List}
use native.Mathlib.Omega.{arith}
use borrow.Author.Tests.{eqb-false, leb-true}
use lib.Dec.{leb, eqb}
use lib.ListN.{length}
use Rattle.plane.specs.declared.Point.{Point}
use Rattle.std.specs.Prelude.{Option, Some, None, ℕ}
use Rattle.crumbs.specs.declared.Crumb.{Crumb}
use Rattle.trail.specs.Trail.{retrace_fixes, Track}
use Rattle.trail.proofs.Theorems.{Holding, holding}
use Rattle.state.specs.State.{State, with_track}
use Rattle.state.specs.Rule.{Done, done}
use Rattle.joining.specs.Join.{join_on, joining, with_retrace, retracing}
use Rattle.joining.specs.Retrace.{rides_back, len_before}
use Rattle.journal.proofs.Trace.{over}
use Rattle.journal.proofs.Sound.{Holds, Ran, Good}

-- ---- along the course
module _ {C : ℕ} where
  join-on : (j : Option ℕ) → Good C (join_on j)
  unfolding join_on
  join-on None s h = record { trace = over; sound = h }
  join-on (Some end) s h = record { trace = over; sound = h }

  pub joining-good : (course : List Crumb) (p : Point) → Good C (joining course p)
  unfolding joining
  joining-good course p s h = join-on _ s h

-- ---- back along the breadcrumb
-- who rides back has two crumbs or more
only-there : (b answer : Bool) → cond b answer false ≡ true → b ≡ true
only-there true answer e = refl
only-there false answer e = e

rides-crumbs : (way : Option ℕ) (l : List Crumb) (p : Point) → rides_back way l p ≡ true → 2 ≤ length l
unfolding rides_back
rides-crumbs None l p e = cc
rides-crumbs (Some heading) l p e = leb-true 2 (length l) (only-there _ _ e)

len-before : (t : Track) → 2 ≤ length t.crumbs → (1 ≤ t.retrace → 1 ≤ t.retrace_len) → 1 ≤ len_before t
unfolding len_before
len-before t two h = by (eqb t.retrace 0) refl
  where
    by : (b : Bool) → eqb t.retrace 0 ≡ b → 1 ≤ cond b (length t.crumbs) t.retrace_len
    by true e = omega arith
    by false e = h (omega (arith, eqb-false t.retrace 0 e))

-- Once a turn-round is told, there is a length to go back to.
pub record Told (C : ℕ) (x : Holding) (d : Done Bool) : Type 0 where
  pub ran : Ran C x d
  pub some : d.answer ≡ true → 1 ≤ d.state.track.retrace_len

module _ {C : ℕ} where
  counted : (n len : ℕ) (s : State) → Holds C s → (1 ≤ n → 1 ≤ len) → Holds C (with_track (with_retrace n len s.track) s)
  unfolding with_retrace
  counted n len s h b =
      record {
        track = record { held = h.track.held; waiting = h.track.waiting; tolerance = h.track.tolerance };
        segment = h.segment;
        back = b;
      }

  pub retracing-told : (p : Point) (s : State) → Holds C s → Told C (holding s.track) (retracing p s)
  unfolding retracing with_retrace
  retracing-told p s h = by (rides_back s.motion.heading s.track.crumbs p) refl
    where
      by : (b : Bool) → rides_back s.motion.heading s.track.crumbs p ≡ b
          → Told C (holding s.track)
          (cond b
          (done (leb retrace_fixes (s.track.retrace + 1))
          (with_track (with_retrace (s.track.retrace + 1) (len_before s.track) s.track) s))
          (done false (with_track (with_retrace 0 s.track.retrace_len s.track) s)))
      by true e =
          let some = len-before s.track (rides-crumbs _ _ p e) h.back in
          record { ran = record { trace = over; sound = counted _ _ s h (λ _. some) }; some = λ _. some }
      by false e =
          record {
            ran = record { trace = over; sound = counted 0 _ s h (λ n. absurd (omega arith)) };
            some =
                λ f. cc;
          }
