-- The guide after a fix keeps the state within its bounds. Assumes nothing.
use Prim.Native.Nat.{ℕ, ◌≤◌, ◌<◌}
use native.Mathlib.Omega.{arith}
use mathlib.Core.Path.{◌≡◌, refl}
use mathlib.Core.Bool.{Bool, true, false, ◌&&◌, ◌||◌, and-eq-true_iff}
use mathlib.Core.List.{List}
use borrow.Author.Tests.{leb-true, lt-ltb}
use lib.Dec.{leb}
use lib.ListN.{length}
use lib.Ieee.{Float, lt, le}
use Rattle.plane.specs.declared.Point.{Point}
use Rattle.plane.specs.Plane.{turn, distance, bearing}
use Rattle.plane.proofs.Place.{Place}
use Rattle.plane.proofs.Theorems.{bearing-below}
use Rattle.crumbs.specs.declared.Crumb.{Crumb}
use Rattle.segments.specs.declared.costs.Nearest.{Nearest}
use Rattle.std.specs.Prelude.{Option, Some, None}
use Rattle.search.specs.declared.Range.{Range}
use Rattle.matching.specs.Distances.{off_m, drop_m}
use Rattle.search.proofs.Theorems.{breadcrumb-met}
use Rattle.search.proofs.course_match.Theorems.{course-met}
use Rattle.crumbs.specs.Along.{start_of}
use Rattle.state.specs.declared.Line.{Line}
use Rattle.state.specs.declared.Line.TheVariants as line
use Rattle.state.specs.declared.Event.{Event}
use Rattle.state.specs.declared.Event.TheVariants as event
use Rattle.state.specs.declared.Follow.{Follow}
use Rattle.state.specs.declared.Course.{Course}
use Rattle.state.specs.State.{State}
use Rattle.state.specs.Rule.{Done}
use Rattle.matching.specs.declared.followed.Way.{Way}
use Rattle.guide.specs.Guide.{leave_m, arrive_m, off_cleared, arrival_from, guide_at, finished, direct}
use Rattle.guide.specs.Goal.{goal_on, long_enough}
use Rattle.matching.specs.Match.{on_course, on_line, around_segment, nearer, is_number, minimum, follow_matched, course_matched}
use Rattle.matching.specs.Followed.{followed_on, followed, progress, nearest, widened}
use Rattle.update.specs.Update.{begun, matched_at, ended_with, at_course_end, matched_to, match_from, follow_on, update}
use Rattle.calls.specs.Questions.{guide_fits, shown_fits}
use Rattle.taken.proofs.Tests.{either, one_of}
use Rattle.taken.proofs.Bounds.{Along, far}
use Rattle.taken.proofs.Laid.{most}
use Rattle.taken.proofs.Moving.{step_start}
use Rattle.taken.proofs.State.{Lined, SegmentOn, Followed, Coursed, Kept, kept-follow, kept-course, kept-arrived, kept-lap}
use Rattle.taken.proofs.State.{kept-updated, kept-guide}
use Rattle.taken.proofs.Searching.{Matches, OnSegment, met-on}
use Rattle.taken.proofs.Following.{stop-kept}

smaller-along : (a b : Float) → Along far a → Along far b → Along far (minimum a b)
unfolding minimum
smaller-along a b A B =
    one_of (Along far) (is_number a && is_number b) (λ t. one_of (Along far) (le a b) (λ u. A) (λ u. B))
    (λ t. one_of (Along far) (is_number a) (λ u. A) (λ u. B))

module _ (C : ℕ) (least : 3 ≤ C) (room : C ≤ most) (course : List Crumb) (lined : Lined course) (p : Point) (P : Place p) where
  -- the state as it is kept here
  abbrev K : State → Type 0
  K s = Kept C (length course) s

  abbrev KD : Done Event → Type 0
  KD d = Kept C (length course) d.state

  begun_kept : (now : ℕ) (s : State) → K s → K (begun p now s)
  unfolding begun
  begun_kept now s k = kept-updated (kept-lap k (step_start s.lap p s.motion.heading k.lap P))

  -- ---- the guide shown
  cleared-followed : (len : ℕ) (f : Follow) → Followed len (length course) f → Followed len (length course) (off_cleared f)
  unfolding off_cleared
  cleared-followed len f h = record { segment = h.segment; matched = h.matched }

  arrival-kept : (was long : Bool) (d : Float) (e : Event) (s : State) → K s → K (arrival_from was long d e s).state
  unfolding arrival_from
  arrival-kept true long d e s k = either KD (lt leave_m d) (λ t. kept-arrived k) (λ t. k)
  arrival-kept false long d e s k =
      either KD (long && lt d arrive_m) (λ t. kept-arrived (kept-follow k (cleared-followed _ s.follow k.follow))) (λ t. k)

  shown-fits : (goal : Point) (d : Float) (w : Way) (s : State) → K s → shown_fits (Some (guide_at course p goal d w s)) ≡ true
  unfolding shown_fits guide_fits guide_at
  shown-fits goal d w s k = rw (lt-ltb (bearing p _) turn (bearing-below p _)) k.motion.heading

  finished-kept : (w : Way) (e : Event) (s : State) → K s → K (finished course p w e s).state
  unfolding finished
  finished-kept w e s k =
      let a = arrival-kept s.arrived (long_enough (on_course s.follow.line) s.track.crumbs)
      (distance p (goal_on s.follow.line course (start_of s.track.crumbs p))) e s k in
      kept-guide a (shown-fits _ _ w _ a)

  direct-kept : (s : State) → K s → K (direct course p s).state
  unfolding direct
  direct-kept s k = finished-kept _ event.Nothing s k

  -- ---- the match
  -- on the followed line
  abbrev On : State → Nearest → Type 0
  On s near = OnSegment (length (followed course s)) near

  followed-lined : (on : Line) (s : State) → K s → Lined (followed_on on course s.track.crumbs)
  unfolding followed_on
  followed-lined line.Course s k = lined
  followed-lined line.Nothing s k = record { laid = k.track.crumbs; few = omega (arith, k.track.sound.held) }
  followed-lined line.Breadcrumb s k = record { laid = k.track.crumbs; few = omega (arith, k.track.sound.held) }

  nearest-met : (on : Line) (ends : Range) (s : State) (near : Nearest) → K s → 1 ≤ ends.from
      → ends.to < length (followed_on on course s.track.crumbs)
      → nearest on course p ends s ≡ Some near → OnSegment (length (followed_on on course s.track.crumbs)) near
  unfolding nearest followed_on
  nearest-met line.Course ends s near k first last e =
      met-on course p ends near lined P first last (course-met course p ends first (progress s) near e)
  nearest-met line.Nothing ends s near k first last e =
      met-on s.track.crumbs p ends near (followed-lined line.Nothing s k) P first last (breadcrumb-met s.track.crumbs p ends near e)
  nearest-met line.Breadcrumb ends s near k first last e =
      met-on s.track.crumbs p ends near (followed-lined line.Breadcrumb s k) P first last
      (breadcrumb-met s.track.crumbs p ends near e)

  nearer-on : (n : ℕ) (near : Nearest) (best : Option Nearest) → OnSegment n near
      → ((other : Nearest) → best ≡ Some other → OnSegment n other) → OnSegment n (nearer near best)
  unfolding nearer
  nearer-on n near None h o = h
  nearer-on n near (Some other) h o = either (OnSegment n) (lt other.off near.off) (λ t. o other refl) (λ t. h)

  widened-on : (near : Nearest) (s : State) → K s → 2 ≤ length (followed course s) → On s near → On s (widened course p near s)
  unfolding widened
  widened-on near s k two h =
      either (On s) (s.follow.off || lt off_m near.off)
      (λ t. nearer-on _ near _ h (λ other e. nearest-met s.follow.line _ s other k (omega arith) (omega arith) e)) (λ t. h)

  segment-on : (on : Line) (crumbs : List Crumb) (end : ℕ) → 1 ≤ end → end < length (followed_on on course crumbs)
      → SegmentOn on end (length crumbs) (length course)
  unfolding followed_on
  segment-on line.Nothing crumbs end a b = tt
  segment-on line.Breadcrumb crumbs end a b = (a, b)
  segment-on line.Course crumbs end a b = (a, b)

  matched-followed : (near : Nearest) (off : Bool) (e : Event) (now : ℕ) (s : State) → On s near
      → Followed (length s.track.crumbs) (length course) (follow_matched near off e now s.follow)
  unfolding follow_matched
  matched-followed near off e now s h =
      record { segment = segment-on s.follow.line s.track.crumbs near.end h.from h.to; matched = h.matches.place }

  matched-coursed : (near : Nearest) (c : Course) → Matches near → Coursed (length course) c
      → Coursed (length course) (course_matched near p c)
  unfolding course_matched
  matched-coursed near c m h =
      record { len = h.len; along = m.along; reached = smaller-along c.reached near.along h.reached m.along; fix = P }

  matched-at-kept : (now : ℕ) (near : Nearest) (s : State) → K s → On s near → K (matched_at course p now near s).state
  unfolding matched_at
  matched-at-kept now near s k h =
      finished-kept _ _ _
      (kept-follow (kept-course k (matched-coursed near s.course h.matches k.course)) (matched-followed near _ _ now s h))

  ended-kept : (e : Event) (now : ℕ) (s : State) → K s → K (ended_with e C course p now s).state
  unfolding ended_with
  ended-kept e now s k = direct-kept _ (begun_kept now _ (stop-kept C least room (length course) s k))

  matched-to-kept : (now : ℕ) (near : Nearest) (s : State) → K s → On s near → K (matched_to C course p now near s).state
  unfolding matched_to
  matched-to-kept now near s k h =
      either KD (lt drop_m near.off) (λ t. ended-kept event.Dropped now s k)
      (λ t. either KD (at_course_end s near) (λ u. ended-kept event.CourseEnd now s k) (λ u. matched-at-kept now near s k h))

  match-from-kept : (best : Option Nearest) (now : ℕ) (s : State) → K s → 2 ≤ length (followed course s)
      → ((near : Nearest) → best ≡ Some near → On s near)
      → K (match_from best C course p now s).state
  unfolding match_from
  match-from-kept None now s k two h = k
  match-from-kept (Some near) now s k two h = matched-to-kept now _ s k (widened-on near s k two (h near refl))

  around-first : (segment len : ℕ) → 1 ≤ (around_segment segment len).from
  unfolding around_segment
  around-first segment len = omega arith

  around-last : (segment len : ℕ) → 2 ≤ len → (around_segment segment len).to < len
  unfolding around_segment
  around-last segment len two = omega arith

  follow-on-kept : (now : ℕ) (s : State) → K s → 2 ≤ length (followed course s) → K (follow_on C course p now s).state
  unfolding follow_on
  follow-on-kept now s k two =
      let ends = around_segment s.follow.segment (length (followed course s)) in
      match-from-kept _ now s k two
      (λ near e. nearest-met s.follow.line ends s near k (around-first s.follow.segment (length (followed course s)))
      (around-last s.follow.segment (length (followed course s)) two) e)

  pub update-kept : (now : ℕ) (s : State) → K s → K (update C course p now s).state
  unfolding update
  update-kept now s k =
      either KD (on_line (begun p now s).follow.line && leb 2 (length (followed course (begun p now s))))
      (λ e. follow-on-kept now _ (begun_kept now s k) (leb-true _ _ ((and-eq-true_iff (on_line (begun p now s).follow.line) _).0 e).1))
      (λ e. direct-kept _ (begun_kept now s k))
