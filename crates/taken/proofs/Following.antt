-- Following begins and ends, and fixes are counted, within the state's bounds. Assumes nothing.
use Prim.Native.Nat.{ℕ, ◌≤◌, ◌<◌}
use native.Mathlib.Omega.{arith}
use mathlib.Core.Path.{◌≡◌, refl, sym, subst}
use mathlib.Core.Bool.{Bool, true, false, cond, and-eq-true_iff}
use mathlib.Core.List.{List}
use borrow.Author.Tests.{ltb-true, leb-true}
use lib.Dec.{ltb}
use lib.ListN.{length, take}
use Rattle.binary32.specs.Limits.{plus_zero}
use Rattle.plane.specs.declared.Point.{Point}
use Rattle.std.specs.Prelude.{Option, Some, None, ℕ}
use Rattle.plane.proofs.Place.{Place}
use Rattle.crumbs.specs.declared.Crumb.{Crumb}
use Rattle.search.specs.Course.{joined}
use Rattle.search.proofs.Theorems.{joined_end}
use Rattle.trail.specs.Notes.{thinned_in}
use Rattle.trail.specs.Trail.{Track, TrailDone as TrackDone, with_crumbs}
use Rattle.trail.specs.Trail as trail
use Rattle.trail.proofs.Theorems.{Sound, keep-sound, flush-sound, add-sound, keep-keeps, flush-keeps, add-keeps, one}
use Rattle.state.specs.declared.Line.{Line}
use Rattle.state.specs.declared.Line.TheVariants as line
use Rattle.state.specs.declared.Follow.{Follow}
use Rattle.state.specs.declared.Course.{Course}
use Rattle.state.specs.State.{State, with_track, with_follow}
use Rattle.state.specs.Rule.{Done}
use Rattle.follow.specs.Parts.{ended_by_thinning}
use Rattle.follow.specs.Record.{after_thinning, recorded_in, recorded, keep_in, add_in, flush_in}
use Rattle.follow.specs.Parts.{along_at, course_from, leads, stopped, held_off}
use Rattle.follow.specs.Engage.{engage_at, engage, cut_to, leave_at, forgotten, stop_nothing, stop_course, stop_breadcrumb, stop_on, stop}
use Rattle.joining.specs.Join.{joined_to, join_on, may_join, join_with, joining}
use Rattle.taken.proofs.Tests.{one_of}
use Rattle.taken.proofs.Bounds.{Along, far, along-start, along-far}
use Rattle.taken.proofs.Laid.{most, laid-at}
use Rattle.taken.proofs.Onward.{uncounted}
use Rattle.taken.proofs.Recording.{Recorded, Onward, keep-onward, flush-onward, add-onward, grows, cut-recorded}
use Rattle.taken.proofs.Recording.{forgotten-recorded, forgotten-none}
use Rattle.taken.proofs.Moving.{Spotted}
use Rattle.taken.proofs.State.{Lined, SegmentOn, Followed, Coursed, Kept, kept-track, kept-follow, kept-course}

-- ---- the breadcrumb in the whole state
-- a breadcrumb that is longer, or one that a thinning made
left-followed : (on : Line) (len len' points : ℕ) (f : Follow) → on ≡ f.line → Followed len points f
    → Followed len' points (ended_by_thinning on f)
unfolding ended_by_thinning
left-followed line.Breadcrumb len len' points f e h = record { segment = tt; matched = tt }
left-followed line.Nothing len len' points f e h =
    record { segment = subst (λ l. SegmentOn l f.segment len' points) e tt; matched = h.matched }
left-followed line.Course len len' points f e h =
    record {
      segment = subst (λ l. SegmentOn l f.segment len' points) e (subst (λ l. SegmentOn l f.segment len points) (sym e) h.segment);
      matched = h.matched;
    }

longer-segment : (on : Line) (segment len len' points : ℕ) → len ≤ len' → SegmentOn on segment len points → SegmentOn on segment len' points
longer-segment line.Nothing segment len len' points g h = h
longer-segment line.Breadcrumb segment len len' points g h = (h.0, omega (arith, h.1))
longer-segment line.Course segment len len' points g h = h

thinning-followed : (thinned : Bool) (len len' points : ℕ) (f : Follow) → (thinned ≡ false → len ≤ len') → Followed len points f
    → Followed len' points (after_thinning thinned f)
unfolding after_thinning
thinning-followed true len len' points f g h = left-followed f.line len len' points f refl h
thinning-followed false len len' points f g h =
    record { segment = longer-segment f.line f.segment len len' points (g refl) h.segment; matched = h.matched }

recorded-kept : {C points : ℕ} {s : State} (d : TrackDone) → Kept C points s → Sound C d.track → Onward s.track d.track
    → (thinned_in d.notes ≡ false → length s.track.crumbs ≤ length d.track.crumbs) → Kept C points (recorded d s).state
unfolding recorded recorded_in
recorded-kept {C} {points} {s} d k sound o g =
    record {
      track = record { sound = sound; crumbs = o.crumbs; waiting = o.waiting };
      counted = o.counted k.counted;
      frame = k.frame;
      here = k.here;
      motion = k.motion;
      follow =
          thinning-followed (thinned_in d.notes) (length s.track.crumbs) (length d.track.crumbs) points s.follow g k.follow;
      course = k.course;
      lap = k.lap;
      guide = k.guide;
    }

module _ (C : ℕ) (least : 3 ≤ C) (room : C ≤ most) (points : ℕ) where
  keep-kept : (p : Point) (s : State) → Kept C points s → Place p → Kept C points (keep_in C p s).state
  unfolding keep_in
  keep-kept p s k P =
      let t = s.track in
      recorded-kept (trail.keep C p t) k (keep-sound C least p t k.track.sound) (keep-onward C least room p t k.track P)
      (grows C _ _ _ (one p (keep-keeps C least p t k.track.sound)))

  pub add_kept : (p : Point) (s : State) → Kept C points s → Place p → Kept C points (add_in C p s).state
  unfolding add_in
  add_kept p s k P =
      let t = s.track in
      recorded-kept (trail.add C p t) k (add-sound C least p t k.track.sound) (add-onward C least room p t k.track P)
      (grows C _ _ _ (add-keeps C least p t k.track.sound))

  pub flush-kept : (s : State) → Kept C points s → Kept C points (flush_in C s).state
  unfolding flush_in
  flush-kept s k =
      let t = s.track in
      recorded-kept (trail.flush C t) k (flush-sound C least t k.track.sound) (flush-onward C least room t k.track)
      (grows C _ _ _ (flush-keeps C least t k.track.sound))

  -- ---- following ends
  stopped-followed : (len : ℕ) (matched : Option Point) (f : Follow) → Spotted matched → Followed len points (stopped matched f)
  unfolding stopped
  stopped-followed len matched f h = record { segment = tt; matched = h }

  held-off : (c : Course) → Coursed points c → Coursed points (held_off c)
  unfolding held_off
  held-off c h = record { len = h.len; along = h.along; reached = h.reached; fix = h.fix }

  pub stop-course-kept : (s : State) → Kept C points s → Kept C points (stop_course s)
  unfolding stop_course
  stop-course-kept s k = kept-follow (kept-course k (held-off s.course k.course)) (stopped-followed _ None s.follow tt)

  stop-nothing-kept : (s : State) → Kept C points s → Kept C points (stop_nothing s)
  unfolding stop_nothing
  stop-nothing-kept s k = kept-follow k (stopped-followed _ s.follow.matched s.follow k.follow.matched)

  -- the first n crumbs, where nothing is followed, nothing waits and no turn-round is counted
  pub cut-kept : (n : ℕ) (t : Track) (s : State) → Recorded C t → Kept C points s → s.follow.line ≡ line.Nothing
      → Kept C points (with_track (with_crumbs (take n t.crumbs) (forgotten t)) s)
  cut-kept n t s r k e =
      kept-track k (cut-recorded C n t r) (uncounted _ (forgotten-none t))
      (record {
        segment = subst (λ l. SegmentOn l s.follow.segment (length (take n t.crumbs)) points) (sym e) tt;
        matched =
            k.follow.matched;
      })

  leave-kept : (x : Option Point) (segment : ℕ) (s : State) → Spotted x → Kept C points s
      → Kept C points (leave_at C x segment (with_follow (stopped None s.follow) (with_track (forgotten s.track) s))).state
  unfolding leave_at cut_to forgotten stopped
  leave-kept None segment s h k =
      let off = stopped-followed _ None s.follow tt in
      kept-track (kept-follow k off) (forgotten-recorded C s.track k.track) (uncounted _ refl) (record { segment = tt; matched = tt })
  leave-kept (Some p) segment s h k =
      keep-kept p _ (cut-kept segment s.track (with_follow (stopped None s.follow) s) k.track
      (kept-follow k (stopped-followed _ None s.follow tt)) refl) h

  stop-breadcrumb-kept : (s : State) → Kept C points s → Kept C points (stop_breadcrumb C s).state
  unfolding stop_breadcrumb
  stop-breadcrumb-kept s k = leave-kept s.follow.matched s.follow.segment s k.follow.matched k

  stop-on-kept : (on : Line) (s : State) → Kept C points s → Kept C points (stop_on on C s).state
  unfolding stop_on
  stop-on-kept line.Nothing s k = stop-nothing-kept s k
  stop-on-kept line.Course s k = stop-course-kept s k
  stop-on-kept line.Breadcrumb s k = stop-breadcrumb-kept s k

  pub stop-kept : (s : State) → Kept C points s → Kept C points (stop C s).state
  unfolding stop
  stop-kept s k = stop-on-kept s.follow.line s k

-- ---- following begins
module _ (C : ℕ) (course : List Crumb) (lined : Lined course) where
  along-at : (end : ℕ) → Along far (along_at course end)
  unfolding along_at
  along-at end =
      one_of (Along far) (ltb end (length course))
      (λ e. (laid-at 0 end course (omega (arith, lined.few)) lined.laid (ltb-true _ _ e)).along)
      (λ e. along-far 0 plus_zero (omega arith) along-start)

  course-from : (end : ℕ) (c : Course) → Coursed (length course) c → Coursed (length course) (course_from course end c)
  unfolding course_from
  course-from end c h = record { len = h.len; along = along-at end; reached = along-at end; fix = tt }

  pub engage-at-kept : (on : Line) (end now : ℕ) (s : State) → SegmentOn on end (length s.track.crumbs) (length course)
      → Kept C (length course) s
      → Kept C (length course) (engage_at course on end now s)
  unfolding engage_at
  engage-at-kept on end now s segment k =
      kept-follow (kept-course k (course-from end s.course k.course)) (record { segment = segment; matched = tt })

  two : (l : List Crumb) → leads l ≡ true → 2 ≤ length l
  unfolding leads
  two l e = leb-true 2 (length l) ((and-eq-true_iff _ _).0 e).0

  pub engage-kept : (now : ℕ) (s : State) → Kept C (length course) s → Kept C (length course) (engage course now s).state
  unfolding engage
  engage-kept now s k =
      one_of (λ (d : Done Bool). Kept C (length course) d.state) (leads s.track.crumbs)
      (λ e. let l = two s.track.crumbs e in engage-at-kept line.Breadcrumb _ now s (omega arith, omega arith) k) (λ e. k)

  -- ---- fixes counted
  joined_to_lem : (fixes end : ℕ) (c : Course) → Coursed (length course) c → Coursed (length course) (joined_to fixes end c)
  unfolding joined_to
  joined_to_lem fixes end c h = record { len = h.len; along = h.along; reached = h.reached; fix = h.fix }

  join-on-kept : (j : Option ℕ) (s : State) → Kept C (length course) s → Kept C (length course) (join_on j s).state
  unfolding join_on
  join-on-kept None s k = kept-course k (joined_to_lem 0 _ s.course k.course)
  join-on-kept (Some end) s k = kept-course k (joined_to_lem _ end s.course k.course)

  pub joining-kept : (p : Point) (s : State) → Kept C (length course) s → Kept C (length course) (joining course p s).state
  unfolding joining
  joining-kept p s k = join-on-kept (join_with s.motion.heading course p s) s k

  -- a fix that is joined is on a segment of the course, and the state knows which
  abbrev pub Joined : State → Type 0
  Joined s = (1 ≤ s.course.join_end) × (s.course.join_end < length course)

  join-on-end : (j : Option ℕ) (s : State) → ((end : ℕ) → j ≡ Some end → (1 ≤ end) × (end < length course)) → (join_on j s).answer ≡ true
      → Joined (join_on j s).state
  unfolding join_on joined_to
  join-on-end None s h e = cc
  join-on-end (Some end) s h e = h end refl

  join-with-end : (heading : Option ℕ) (p : Point) (s : State) (end : ℕ) → join_with heading course p s ≡ Some end
      → (1 ≤ end) × (end < length course)
  unfolding join_with
  join-with-end None p s end e = cc
  join-with-end (Some heading) p s end e = by (may_join course s) e
    where
      by : (b : Bool) → cond b (joined course p heading) None ≡ Some end → (1 ≤ end) × (end < length course)
      by true f = joined_end course p heading end f
      by false f = cc

  pub joining-end : (p : Point) (s : State) → (joining course p s).answer ≡ true → Joined (joining course p s).state
  unfolding joining
  joining-end p s e = join-on-end (join_with s.motion.heading course p s) s (join-with-end s.motion.heading p s) e

  join-on-follow : (j : Option ℕ) (s : State) → (join_on j s).state.follow ≡ s.follow
  unfolding join_on
  join-on-follow None s = refl
  join-on-follow (Some end) s = refl

  pub joining-follow : (p : Point) (s : State) → (joining course p s).state.follow ≡ s.follow
  unfolding joining
  joining-follow p s = join-on-follow (join_with s.motion.heading course p s) s
