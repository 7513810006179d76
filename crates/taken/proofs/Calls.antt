-- Each of the guide's calls keeps the state within its bounds. Assumes nothing.
use Prim.Native.Nat.{ℕ, ◌+◌, ◌≤◌}
use native.Mathlib.Omega.{arith}
use mathlib.Core.Path.{◌≡◌, refl, ap, ◌∙◌}
use mathlib.Core.Bool.{Bool, true, false, ◌&&◌}
use mathlib.Core.List.{List}
use borrow.Author.Tests.{leb-false}
use lib.Dec.{ltb}
use lib.ListN.{length}
use Rattle.plane.specs.declared.Point.{Point}
use Rattle.std.specs.Prelude.{Option, Some, None}
use Rattle.plane.specs.declared.Fix.{Fix}
use Rattle.plane.proofs.Place.{Place}
use Rattle.crumbs.specs.declared.Crumb.{Crumb}
use Rattle.motion.specs.Heading.{elapsed}
use Rattle.segments.specs.declared.costs.Nearest.{Nearest}
use Rattle.search.proofs.Theorems.{course-near-met}
use Rattle.state.specs.declared.Line.{Line}
use Rattle.state.specs.declared.Line.TheVariants as line
use Rattle.state.specs.declared.Event.{Event}
use Rattle.state.specs.declared.Course.{Course}
use Rattle.state.specs.State.{State, with_track}
use Rattle.state.specs.Rule.{Done}
use Rattle.follow.specs.Engage.{cut_to, forgotten}
use Rattle.joining.specs.Join.{with_retrace, retracing}
use Rattle.joining.specs.Retrace.{len_before, rides_back}
use Rattle.update.specs.Update.{update}
use Rattle.course.specs.Fix.{located}
use Rattle.std.specs.Option.{is_some}
use Rattle.calls.specs.Fix.{fix_lost_ms, unfixed, cleared, missing, same_fix, headed, still_ms, still_at, add_update, tell_following}
use Rattle.calls.specs.Fix.{joined_course, turned_back, engaged_back, retraced, may_retrace, joined_or_not, fix_on, arrived_at, new_fix}
use Rattle.calls.specs.Fix.{seen}
use Rattle.calls.specs.Fix.{observe, pass_only, replay, unheaded, end_replay}
use Rattle.calls.specs.Follow.{update_here, brought, engaged_or, way_home, follow, near_here, follow_from, set_following, auto_off}
use Rattle.calls.specs.Follow.{set_auto_follow}
use Rattle.calls.specs.Calls.{point_of}
use Rattle.taken.specs.Taken.{FixOnGlobe, FixesOnGlobe}
use Rattle.taken.proofs.Tests.{either, one_of}
use Rattle.taken.proofs.Laid.{most}
use Rattle.taken.proofs.Recording.{retrace-recorded, none-counted, more-counted}
use Rattle.taken.proofs.Moving.{Spotted, located-framed, framed-place, heading-moving, unheaded-moving, step_start}
use Rattle.taken.proofs.State.{nothing-shown, Lined, Coursed, Kept, kept-track, kept_frame, kept-fed, kept_here, kept-here-ms}
use Rattle.taken.proofs.State.{kept-motion, kept-course, kept-auto-follow, kept-lap, kept-guide}
use Rattle.taken.proofs.Searching.{OnSegment, met-on}
use Rattle.taken.proofs.Following.{add_kept, flush-kept, stop-kept, cut-kept, engage-at-kept, engage-kept, Joined, joining-kept}
use Rattle.taken.proofs.Following.{joining-end, joining-follow}
use Rattle.taken.proofs.Updating.{update-kept}

module _ (C : ℕ) (least : 3 ≤ C) (room : C ≤ most) (points : ℕ) where
  headed-kept : (p : Point) (now : ℕ) (s : State) → Kept C points s → Place p → Kept C points (headed p now s)
  unfolding headed
  headed-kept p now s k P = kept-motion k (heading-moving s.motion p now k.motion P)

  -- ---- a fix from before a restart
  pass-only-kept : (p : Point) (s : State) → Kept C points s → Place p → Kept C points (pass_only p s)
  unfolding pass_only
  pass-only-kept p s k P = kept-lap k (step_start s.lap p s.motion.heading k.lap P)

  pub replay-kept : (x : Fix) (now : ℕ) (s : State) → Kept C points s → FixOnGlobe x → Kept C points (replay C x now s).state
  unfolding replay
  replay-kept x now s k g =
      let f = located-framed x s.frame g k.frame in
      let P = framed-place (located x s.frame) x f g in
      pass-only-kept _ _ (add_kept C least room points _ _ (headed-kept _ now _ (kept_frame k f) P) P) P

  pub end-replay-kept : (s : State) → Kept C points s → Kept C points (end_replay s).state
  unfolding end_replay unheaded
  end-replay-kept s k = kept-motion k (unheaded-moving s.motion.heading_ms)

  -- ---- following by itself allowed or not
  auto-off-kept : (on : Bool) (s : State) → Kept C points s → Kept C points (auto_off on C s).state
  unfolding auto_off
  auto-off-kept true s k = kept-auto-follow (stop-kept C least room points s k)
  auto-off-kept false s k = kept-auto-follow k

  pub auto-follow-kept : (on : Bool) (s : State) → Kept C points s → Kept C points (set_auto_follow on C s).state
  unfolding set_auto_follow
  auto-follow-kept true s k = kept-auto-follow k
  auto-follow-kept false s k = auto-off-kept s.auto_follow s k

module _ (C : ℕ) (least : 3 ≤ C) (room : C ≤ most) (course : List Crumb) (lined : Lined course) where
  abbrev K : State → Type 0
  K s = Kept C (length course) s

  update-at : (p : Point) (now : ℕ) (s : State) → K s → Place p → K (update C course p now s).state
  update-at p now s k P = update-kept C least room course lined p P now s k

  -- ---- following begun and ended by the rider
  update-here-kept : (x : Option Point) (now : ℕ) (s : State) → Spotted x → K s → K (update_here x C course now s).state
  unfolding update_here
  update-here-kept None now s h k = k
  update-here-kept (Some p) now s h k = update-at p now s k h

  brought-kept : (now : ℕ) (s : State) → K s → K (brought C course now s).state
  unfolding brought
  brought-kept now s k = update-here-kept s.here now s k.here k

  engaged-or-kept : (b : Bool) (now : ℕ) (s : State) → K s → K (engaged_or b C course now s).state
  unfolding engaged_or
  engaged-or-kept true now s k = brought-kept now s k
  engaged-or-kept false now s k = k

  way-home-kept : (now : ℕ) (s : State) → K s → K (way_home C course now s).state
  unfolding way_home
  way-home-kept now s k = engaged-or-kept _ now _ (engage-kept C course lined now _ (flush-kept C least room (length course) s k))

  near-here-on : (x : Option Point) (near : Nearest) → Spotted x → near_here x course ≡ Some near → OnSegment (length course) near
  unfolding near_here
  near-here-on None near h e = cc
  near-here-on (Some p) near h e =
      let m = (course-near-met course p _ near e).0 in
      let some : 1 ≤ length course = omega (arith, m.from, m.to) in
      met-on course p _ near lined h (omega arith) (omega arith) m

  follow-kept : (found : Option Nearest) (now : ℕ) (s : State) → K s
      → ((near : Nearest) → found ≡ Some near → OnSegment (length course) near) → K (follow found C course now s).state
  unfolding follow
  follow-kept (Some near) now s k h =
      let n = h near refl in
      brought-kept now _ (engage-at-kept C course lined line.Course near.end now s (n.from, n.to) k)
  follow-kept None now s k h = way-home-kept now s k

  follow-from-kept : (on : Line) (now : ℕ) (s : State) → K s → K (follow_from on C course now s).state
  unfolding follow_from
  follow-from-kept line.Nothing now s k =
      follow-kept (near_here s.here course) now s k (λ near e. near-here-on s.here near k.here e)
  follow-from-kept line.Breadcrumb now s k = brought-kept now s k
  follow-from-kept line.Course now s k = brought-kept now s k

  pub following-kept : (on : Bool) (now : ℕ) (s : State) → K s → K (set_following on C course now s).state
  unfolding set_following
  following-kept true now s k = follow-from-kept s.follow.line now s k
  following-kept false now s k = brought-kept now _ (stop-kept C least room (length course) s k)

  -- ---- a fix that is missing, or repeated
  unfixed-coursed : (c : Course) → Coursed (length course) c → Coursed (length course) (unfixed c)
  unfolding unfixed
  unfixed-coursed c h = record { len = h.len; along = h.along; reached = h.reached; fix = tt }

  cleared-kept : (s : State) → K s → K (cleared s)
  unfolding cleared
  cleared-kept s k = kept-guide (kept-course (kept-fed (kept_here k tt)) (unfixed-coursed s.course k.course)) nothing-shown

  missing-kept : (now : ℕ) (s : State) → K s → K (missing now s).state
  unfolding missing
  missing-kept now s k = one_of K (is_some s.here && ltb fix_lost_ms (elapsed now s.here_ms)) (λ t. cleared-kept s k) (λ t. k)

  still-at-kept : (x : Option Point) (now : ℕ) (s : State) → Spotted x → K s → K (still_at x C course now s).state
  unfolding still_at
  still-at-kept None now s h k = k
  still-at-kept (Some p) now s h k =
      either (λ (d : Done Event). K d.state) (ltb (elapsed now s.updated_ms) still_ms) (λ t. k)
      (λ t. update-at p now _ (headed-kept C least room (length course) p now s k h) h)

  -- ---- a new fix, at p
  module _ (p : Point) (P : Place p) (now : ℕ) where
    add-update-kept : (s : State) → K s → K (add_update C course p now s).state
    unfolding add_update
    add-update-kept s k = update-at p now _ (add_kept C least room (length course) p s k P) P

    joined-course-kept : (s : State) → K s → Joined C course lined s → K (joined_course C course p now s).state
    unfolding joined_course tell_following
    joined-course-kept s k j = add-update-kept _ (engage-at-kept C course lined line.Course s.course.join_end now s j k)

    engaged-back-kept : (b : Bool) (s : State) → K s → K (engaged_back b C course p now s).state
    unfolding engaged_back tell_following
    engaged-back-kept true s k = update-at p now s k P
    engaged-back-kept false s k = add-update-kept s k

    retraced-kept : (b : Bool) (s : State) → (b ≡ true → K (turned_back s)) → (b ≡ false → K s) → K (retraced b C course p now s).state
    unfolding retraced
    retraced-kept true s h k = engaged-back-kept _ _ (engage-kept C course lined now _ (h refl))
    retraced-kept false s h k = add-update-kept s (k refl)

    -- where nothing is followed the breadcrumb may be cut
    turned-kept : (n len : ℕ) (s : State) → K s → s.follow.line ≡ line.Nothing
        → K (turned_back (with_track (with_retrace n len s.track) s))
    unfolding turned_back cut_to forgotten with_retrace
    turned-kept n len s k e =
        cut-kept C least room (length course) len (with_retrace n len s.track) s (retrace-recorded C n len s.track k.track) k e

    abbrev Retraces : Done Bool → Type 0
    Retraces d = (d.answer ≡ true → K (turned_back d.state)) × (d.answer ≡ false → K d.state)

    retracing-kept : (s : State) → K s → s.follow.line ≡ line.Nothing → Retraces (retracing p s)
    unfolding retracing with_retrace
    retracing-kept s k e =
        let t = s.track in
        one_of Retraces (rides_back s.motion.heading t.crumbs p)
        (λ r. (
          λ a. turned-kept (t.retrace + 1) (len_before t) s k e,
          λ a. kept-track k (retrace-recorded C (t.retrace + 1) (len_before t) t k.track)
              (more-counted (t.retrace + 1) t (leb-false _ _ a) k.counted) k.follow,
        ))
        (λ r. (
          λ a. cc,
          λ a. kept-track k (retrace-recorded C 0 t.retrace_len t k.track) (none-counted t.retrace_len t) k.follow,
        ))

    may-retrace-kept : (may : Bool) (s : State) → K s → s.follow.line ≡ line.Nothing → K (may_retrace may C course p now s).state
    unfolding may_retrace
    may-retrace-kept true s k e = let r = retracing-kept s k e in retraced-kept _ _ r.0 r.1
    may-retrace-kept false s k e = add-update-kept s k

    joined-or-not-kept : (b : Bool) (s : State) → K s → s.follow.line ≡ line.Nothing → (b ≡ true → Joined C course lined s)
        → K (joined_or_not b C course p now s).state
    unfolding joined_or_not
    joined-or-not-kept true s k e j = joined-course-kept s k (j refl)
    joined-or-not-kept false s k e j = may-retrace-kept s.auto_follow s k e

    fix-on-kept : (on : Line) (s : State) → s.follow.line ≡ on → K s → K (fix_on on C course p now s).state
    unfolding fix_on
    fix-on-kept line.Breadcrumb s e k = update-at p now s k P
    fix-on-kept line.Course s e k = add-update-kept s k
    fix-on-kept line.Nothing s e k =
        joined-or-not-kept _ _ (joining-kept C course lined p s k) (ap (λ f. f.line) (joining-follow C course lined p s) ∙ e)
        (joining-end C course lined p s)

  arrived-at-kept : (x : Fix) (now : ℕ) (s : State) → K s → FixOnGlobe x → K (arrived_at x now s)
  unfolding arrived_at
  arrived-at-kept x now s k g =
      let f = located-framed x s.frame g k.frame in
      let P = framed-place (located x s.frame) x f g in
      headed-kept C least room (length course) _ now _ (kept_here (kept_frame (kept-fed k) f) P) P

  arrived-follow : (x : Fix) (now : ℕ) (s : State) → (arrived_at x now s).follow.line ≡ s.follow.line
  unfolding arrived_at headed
  arrived-follow x now s = refl

  new-fix-kept : (x : Fix) (now : ℕ) (s : State) → K s → FixOnGlobe x → K (new_fix C course x now s).state
  unfolding new_fix
  new-fix-kept x now s k g =
      let f = located-framed x s.frame g k.frame in
      fix-on-kept _ (framed-place (located x s.frame) x f g) now s.follow.line _ (arrived-follow x now s)
      (arrived-at-kept x now s k g)

  seen-kept : (x : Fix) (now : ℕ) (s : State) → K s → FixOnGlobe x → K (seen C course x now s).state
  unfolding seen
  seen-kept x now s k g =
      either (λ (d : Done Event). K d.state) (same_fix s.fed x) (λ t. still-at-kept s.here now _ k.here (kept-here-ms k))
      (λ t. new-fix-kept x now _ (kept-here-ms k) g)

  pub observe-kept : (x : Option Fix) (now : ℕ) (s : State) → K s → FixesOnGlobe (point_of x) → K (observe C course x now s).state
  unfolding observe
  observe-kept (Some x) now s k g = seen-kept x now s k g.0
  observe-kept None now s k g = missing-kept now s k
