-- A fix taken: `observe`, `replay`, `end_replay`. Assumes nothing.
use Prim.Native.Nat.{ℕ, ◌≤◌}
use mathlib.Core.Path.{◌≡◌, refl}
use mathlib.Core.Bool.{Bool, true, false, ◌&&◌, cond}
use mathlib.Core.List.{List}
use native.Mathlib.Omega.{arith}
use lib.Dec.{ltb}
use Rattle.plane.specs.declared.Point.{Point}
use Rattle.std.specs.Prelude.{Option, Some, None}
use Rattle.plane.specs.declared.Fix.{Fix}
use Rattle.crumbs.specs.declared.Crumb.{Crumb}
use Rattle.motion.specs.Heading.{elapsed}
use Rattle.trail.proofs.Theorems.{Holding, holding}
use Rattle.state.specs.declared.Line.{Line}
use Rattle.state.specs.declared.Line.TheVariants as line
use Rattle.state.specs.declared.Event.{Event}
use Rattle.state.specs.declared.Event.TheVariants as event
use Rattle.state.specs.State.{State, with_frame, with_here_ms, with_motion}
use Rattle.state.specs.Rule.{Done, done}
use Rattle.follow.specs.Engage.{cut_to, forgotten}
use Rattle.course.specs.Fix.{located, framed}
use Rattle.std.specs.Option.{is_some}
use Rattle.calls.specs.Fix.{fix_lost_ms, still_ms, cleared, missing, same_fix, headed, still_at, add_update, tell_following}
use Rattle.calls.specs.Fix.{joined_course}
use Rattle.calls.specs.Fix.{turned_back, engaged_back, retraced, may_retrace, joined_or_not, fix_on, arrived_at, new_fix, seen, observe}
use Rattle.calls.specs.Fix.{pass_only}
use Rattle.calls.specs.Fix.{replay, unheaded, end_replay}
use Rattle.journal.proofs.Trace.{after}
use Rattle.journal.proofs.Sound.{Holds, Ran, Good, still, then, either, resumed}
use Rattle.journal.proofs.Recording.{add-good}
use Rattle.journal.proofs.Following.{course-followed, engaged, engage-good, cut-sound, forgotten-sound, cut-then}
use Rattle.journal.proofs.Joining.{joining-good, retracing-told}
use Rattle.journal.proofs.Updating.{update-good}

-- ---- what leaves the breadcrumb alone
module _ {C : ℕ} where
  missing-good : (now : ℕ) → Good C (missing now)
  unfolding missing cleared
  missing-good now s h = by (is_some s.here && ltb fix_lost_ms (elapsed now s.here_ms))
    where
      by : (b : Bool) → Ran C (holding s.track) (done event.Nothing (cond b (cleared s) s))
      by true = still event.Nothing (cleared s) h
      by false = still event.Nothing s h

  tells : {x : Holding} (d : Done Event) → Ran C x d → Ran C x (tell_following d)
  unfolding tell_following
  tells d r = record { trace = r.trace; sound = r.sound }

  pub end-replay-good : Good C end_replay
  unfolding end_replay
  end-replay-good s h = still tt (with_motion (unheaded s.motion) s) h

-- ---- observed
module _ (C : ℕ) (least : 3 ≤ C) (course : List Crumb) (now : ℕ) where
  still-good : (here : Option Point) → Good C (still_at here C course now)
  unfolding still_at headed
  still-good None s h = still event.Nothing s h
  still-good (Some p) s h =
      either (ltb (elapsed now s.updated_ms) still_ms) (still event.Nothing s h) (update-good C least course p now (headed p now s) h)

  module _ (p : Point) where
    add-update : Good C (add_update C course p now)
    unfolding add_update
    add-update s h = then (add-good C least p s h) λ _ after k. update-good C least course p now after k

    -- the course, which is not the breadcrumb, from where it was joined
    joined-good : Good C (joined_course C course p now)
    unfolding joined_course
    joined-good s h =
        let q = engaged course line.Course s.course.join_end now s h course-followed in
        tells _ (resumed q.same (add-update _ q.sound))

    turned-holds : (s : State) → Holds C s → Holds C (turned_back s)
    unfolding turned_back forgotten cut_to
    turned-holds s h =
        let cut = cut-sound s.track.retrace_len s h in
        record { track = forgotten-sound _ cut.track; segment = h.segment; back = λ n. absurd (omega arith) }

    engaged-back : (b : Bool) → Good C (engaged_back b C course p now)
    unfolding engaged_back
    engaged-back true s h = tells _ (update-good C least course p now s h)
    engaged-back false s h = add-update s h

    retraced-good : (b : Bool) (s : State) → Holds C s → (b ≡ true → 1 ≤ s.track.retrace_len)
        → Ran C (holding s.track) (retraced b C course p now s)
    unfolding retraced turned_back forgotten cut_to
    retraced-good true s h some =
        cut-then s.track.retrace_len (holding s.track) _ (some refl)
        (then (engage-good course now (turned_back s) (turned-holds s h)) λ b after k. engaged-back b after k)
    retraced-good false s h some = add-update s h

    may-retrace : (b : Bool) → Good C (may_retrace b C course p now)
    unfolding may_retrace
    may-retrace true s h =
        let told = retracing-told p s h in
        let r = retraced-good _ _ told.ran.sound told.some in
        record { trace = after told.ran.trace r.trace; sound = r.sound }
    may-retrace false s h = add-update s h

    joined-or-not : (b : Bool) → Good C (joined_or_not b C course p now)
    unfolding joined_or_not
    joined-or-not true s h = joined-good s h
    joined-or-not false s h = may-retrace s.auto_follow s h

    fix-on : (l : Line) → Good C (fix_on l C course p now)
    unfolding fix_on
    fix-on line.Breadcrumb s h = update-good C least course p now s h
    fix-on line.Course s h = add-update s h
    fix-on line.Nothing s h = then (joining-good course p s h) λ b after k. joined-or-not b after k

  new-fix : (x : Fix) → Good C (new_fix C course x now)
  unfolding new_fix arrived_at headed
  new-fix x s h = fix-on (framed (located x s.frame) x) s.follow.line (arrived_at x now s) h

  seen-good : (x : Fix) → Good C (seen C course x now)
  unfolding seen
  seen-good x s h = either (same_fix s.fed x) (still-good s.here (with_here_ms now s) h) (new-fix x (with_here_ms now s) h)

  pub observe-good : (x : Option Fix) → Good C (observe C course x now)
  unfolding observe
  observe-good (Some x) s h = seen-good x s h
  observe-good None s h = missing-good now s h

-- ---- replayed
module _ (C : ℕ) (least : 3 ≤ C) where
  pub replay-good : (x : Fix) (now : ℕ) → Good C (replay C x now)
  unfolding replay headed pass_only
  replay-good x now s h =
      let f = located x s.frame in
      let p = framed f x in
      then (add-good C least p (headed p now (with_frame f s)) h) λ _ after k. still tt (pass_only p after) k
