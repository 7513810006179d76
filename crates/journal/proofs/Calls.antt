-- Every call, refused or not. Assumes nothing.
use Prim.Native.Nat.{ℕ, ◌≤◌}
use mathlib.Core.Path.{◌≡◌, refl}
use mathlib.Core.Bool.{Bool, true, false}
use mathlib.Core.List.{List}
use native.Mathlib.Omega.{arith}
use lib.Dec.{eqb}
use lib.Ieee.{le}
use Rattle.binary32.specs.Arithmetic.{constant}
use Rattle.binary32.specs.Limits.{plus_zero}
use Rattle.std.specs.Prelude.{Option, Some, None}
use Rattle.segments.specs.declared.costs.Nearest.{Nearest}
use Rattle.plane.specs.declared.Fix.{Fix}
use Rattle.plane.specs.declared.Point.{Point}
use Rattle.crumbs.specs.declared.Crumb.{Crumb}
use Rattle.crumbs.specs.Crumb.{capacity}
use Rattle.trail.specs.Trail.{tolerance_m}
use Rattle.trail.specs.Trail as trail
use Rattle.trail.proofs.Theorems.{Holding, holding}
use Rattle.state.specs.declared.Line.{Line}
use Rattle.state.specs.declared.Line.TheVariants as line
use Rattle.state.specs.State.{State, with_auto_follow}
use Rattle.state.specs.Rule.{Done}
use Rattle.calls.specs.Follow.{update_here, brought, engaged_or, way_home, follow, near_here, follow_from, set_following, auto_off}
use Rattle.calls.specs.Follow.{set_auto_follow}
use Rattle.calls.specs.Line.{reset, off_course, set_course}
use Rattle.calls.specs.Calls.{Call, Ask, Reset, EndReplay, SetCourse, SetAutoFollow, Observe, Replay, SetFollowing, silent, course_in, asks}
use Rattle.calls.specs.Calls.{performs, after_call}
use Rattle.journal.proofs.Trace as trace
use Rattle.journal.proofs.Sound.{Holds, Ran, Good, Quiet, still, quiet, then, either, resumed}
use Rattle.journal.proofs.Recording.{flush-good}
use Rattle.journal.proofs.Following.{engaged, engage-good, nothing-followed, course-followed, stop-course, stop-good}
use Rattle.journal.proofs.Updating.{update-good}
use Rattle.journal.proofs.Fixes.{observe-good, replay-good, end-replay-good}

-- ---- following, by the rider
module _ (C : ℕ) (least : 3 ≤ C) where
  module _ (course : List Crumb) (now : ℕ) where
    update_here_lem : (here : Option Point) → Good C (update_here here C course now)
    unfolding update_here
    update_here_lem None s h = still true s h
    update_here_lem (Some p) s h = then (update-good C least course p now s h) λ _ after k. still true after k

    brought-good : Good C (brought C course now)
    unfolding brought
    brought-good s h = update_here_lem s.here s h

    engaged-or : (b : Bool) → Good C (engaged_or b C course now)
    unfolding engaged_or
    engaged-or true s h = brought-good s h
    engaged-or false s h = still false s h

    way_home_lem : Good C (way_home C course now)
    unfolding way_home
    way_home_lem s h =
        then (flush-good C least s h) λ _ flushed k. then (engage-good course now flushed k) λ b after l. engaged-or b after l

    follow-good : (best : Option Nearest) → Good C (follow best C course now)
    unfolding follow
    follow-good (Some near) s h = let q = engaged course line.Course near.end now s h course-followed in
        resumed q.same (brought-good _ q.sound)
    follow-good None s h = way_home_lem s h

    follow-from : (l : Line) → Good C (follow_from l C course now)
    unfolding follow_from
    follow-from line.Nothing s h = follow-good (near_here s.here course) s h
    follow-from line.Breadcrumb s h = brought-good s h
    follow-from line.Course s h = brought-good s h

    set-following : (on : Bool) → Good C (set_following on C course now)
    unfolding set_following
    set-following true s h = follow-from s.follow.line s h
    set-following false s h = then (stop-good C least s h) λ _ after k. brought-good after k

  auto-off : (was : Bool) → Good C (auto_off was C)
  unfolding auto_off
  auto-off true s h = then (stop-good C least s h) λ _ after k. still tt (with_auto_follow false after) k
  auto-off false s h = still tt (with_auto_follow false s) h

  set-auto : (on : Bool) → Good C (set_auto_follow on C)
  unfolding set_auto_follow
  set-auto true s h = still tt (with_auto_follow true s) h
  set-auto false s h = auto-off s.auto_follow s h

-- ---- the guide made anew, and its course
pub new-tolerance : le plus_zero tolerance_m ≡ true
unfolding tolerance_m constant le
new-tolerance = refl

module _ {C : ℕ} where
  reset-good : Good C reset
  unfolding reset trail.reset_track
  reset-good s h =
      record {
        trace = trace.reset trace.over;
        sound =
            record {
              track = record { held = omega arith; waiting = omega arith; tolerance = new-tolerance };
              segment = nothing-followed;
              back = λ n. absurd (omega arith);
            };
      }

  off-course : (l : Line) (s : State) → Holds C s → Quiet C (holding s.track) (off_course l s)
  unfolding off_course
  off-course line.Course s h = stop-course s h
  off-course line.Nothing s h = record { same = refl; sound = h }
  off-course line.Breadcrumb s h = record { same = refl; sound = h }

  set-course : (xs : List Fix) → Good C (set_course xs)
  unfolding set_course
  set-course xs s h = let q = off-course s.follow.line s h in quiet tt (record { same = q.same; sound = q.sound })

  silenced : {A : Type 0} {x : Holding} (d : Done A) → Ran C x d → Ran C x (silent d)
  silenced d r = record { trace = r.trace; sound = r.sound }

-- ---- all of them
module _ (C : ℕ) (least : 3 ≤ C) where
  performs-good : (c : Call) → Good C (performs C c)
  unfolding performs
  performs-good Reset s h = reset-good s h
  performs-good (SetCourse b xs) s h = set-course xs s h
  performs-good (SetAutoFollow on) s h = set-auto C least on s h
  performs-good (Observe b x now) s h = silenced _ (observe-good C least (course_in b s) now x s h)
  performs-good (Replay x now) s h = replay-good C least x now s h
  performs-good EndReplay s h = end-replay-good s h
  performs-good (SetFollowing b on now) s h = silenced _ (set-following C least (course_in b s) now on s h)
  performs-good (Ask q) s h = still tt s h

  -- on a buffer with room for C crumbs
  pub turn-good : (c : Call) (size : ℕ) → capacity size ≡ C → Good C (after_call size c)
  unfolding after_call
  turn-good c size e s h = either (eqb (asks size c s) 0) (rw e (performs-good c s h)) (still tt s h)
