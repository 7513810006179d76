-- Whatever lines the calls are lent, the origin is a fix in range, the east factor that of a latitude, and metres along the breadcrumb are
-- values of binary32. Assumes nothing.
use Prim.Native.Nat.{ℕ, zero, suc, ◌≤◌}
use native.Mathlib.Omega.{arith}
use mathlib.Core.Path.{◌≡◌}
use mathlib.Core.Bool.{Bool, true, false, ◌&&◌}
use mathlib.Core.List.{List, [], ◌∷◌, ◌++◌}
use borrow.Author.Tests.{eqb-true}
use lib.Dec.{T, leb, ltb, eqb}
use lib.ListN.{length, take}
use lib.Ieee.{Float, binary32, fits, lt}
use lib.Ieee.Fits.{add-fits}
use Rattle.binary32.proofs.magnitude.Signs.{zero-fits}
use Rattle.plane.specs.declared.Point.{Point}
use Rattle.std.specs.Prelude.{Option, Some, None, ℕ}
use Rattle.plane.specs.declared.Fix.{Fix}
use Rattle.crumbs.specs.declared.Crumb.{Crumb}
use Rattle.crumbs.specs.Crumb.{capacity, point}
use Rattle.crumbs.specs.Choice.{Choice, end, leave, strike, last}
use Rattle.motion.specs.Heading.{elapsed}
use Rattle.thin.proofs.Theorems.{thins-any}
use Rattle.segments.specs.declared.costs.Nearest.{Nearest}
use Rattle.matching.specs.Distances.{drop_m}
use Rattle.crumbs.specs.Along.{crumb_of, along_to, along_behind, recorded_m, realong_behind, realong}
use Rattle.trail.specs.Trail.{Track, fresh, thin, put, wait}
use Rattle.trail.specs.Trail as trail
use Rattle.journal.proofs.Walking.{Steps, keeps, flushes, adds}
use Rattle.state.specs.declared.Line.{Line}
use Rattle.state.specs.declared.Line.TheVariants as line
use Rattle.state.specs.declared.Event.{Event}
use Rattle.state.specs.declared.Event.TheVariants as event
use Rattle.state.specs.State.{State, with_here_ms}
use Rattle.state.specs.Rule.{Done}
use Rattle.follow.specs.Record.{recorded, recorded_in, keep_in, add_in, flush_in}
use Rattle.follow.specs.Parts.{leads}
use Rattle.follow.specs.Engage.{engage_at, engage, cut_to, leave_at, forgotten, stop_nothing, stop_course, stop_breadcrumb, stop_on, stop}
use Rattle.joining.specs.Retrace.{rides_back}
use Rattle.joining.specs.Join.{join_on, joining, with_retrace, retracing}
use Rattle.matching.specs.declared.followed.Way.{Way}
use Rattle.matching.specs.Match.{on_line}
use Rattle.matching.specs.Followed.{followed, widened}
use Rattle.guide.specs.Guide.{arrival_from, finished, direct, leave_m, arrive_m}
use Rattle.update.specs.Update.{begun, matched_at, ended_with, at_course_end, matched_to, match_from, follow_on, update}
use Rattle.std.specs.Option.{is_some}
use Rattle.calls.specs.Fix.{fix_lost_ms, still_ms, cleared, missing, same_fix, headed, still_at, add_update, tell_following}
use Rattle.calls.specs.Fix.{joined_course}
use Rattle.calls.specs.Fix.{turned_back, engaged_back, retraced, may_retrace, joined_or_not, fix_on, arrived_at, new_fix, seen, observe}
use Rattle.calls.specs.Fix.{pass_only}
use Rattle.calls.specs.Fix.{replay, end_replay}
use Rattle.calls.specs.Follow.{update_here, brought, engaged_or, way_home, follow, near_here, follow_from, set_following, auto_off}
use Rattle.calls.specs.Follow.{set_auto_follow}
use Rattle.calls.specs.Line.{new, reset, off_course, set_course}
use Rattle.calls.specs.Questions.{asks_crumbs, asks_both}
use Rattle.calls.specs.Calls.{Call, Ask, Reset, EndReplay, SetCourse, SetAutoFollow, Observe, Replay, SetFollowing, point_of, asks_place}
use Rattle.calls.specs.Calls.{asks, course_in, performs, after_call}
use Rattle.questions.proofs.Given.{fix-given, neither}
use Rattle.taken.specs.Taken.{FixOnGlobe, FixesOnGlobe}
use Rattle.taken.proofs.Tests.{either, one_of}
use Rattle.taken.proofs.Moving.{Framed, located-framed}
use Rattle.taken.proofs.asked.Recording.{Rounded}
use Rattle.taken.proofs.Lines.{factor-start}

-- ---- metres along that are values of binary32
rounded-snoc : (l : List Crumb) (c : Crumb) → Rounded l → T (fits binary32 c.along) → Rounded (l ++ c ∷ [])
rounded-snoc [] c h k = (k, tt)
rounded-snoc (a ∷ l) c h k = (h.0, rounded-snoc l c h.1 k)

behind-fits : (o : Option Crumb) (p : Point) → T (fits binary32 (along_behind o p))
unfolding along_behind along_to
behind-fits None p = zero-fits binary32
behind-fits (Some a) p = add-fits binary32 a.along _

rounded-choice : {m l : List Crumb} → Choice m l → Rounded l → Rounded m
rounded-choice end h = tt
rounded-choice (leave c) h = (h.0, rounded-choice c h.1)
rounded-choice (strike c) h = rounded-choice c h.1

rounded-behind : (a : Crumb) (l : List Crumb) → Rounded (realong_behind a l)
unfolding realong_behind along_to
rounded-behind a [] = tt
rounded-behind a (b ∷ l) = (add-fits binary32 a.along _, rounded-behind (crumb_of (point b) (along_to a (point b))) l)

rounded-realong : (l : List Crumb) → Rounded l → Rounded (realong l)
unfolding realong
rounded-realong [] h = tt
rounded-realong (a ∷ l) h = (h.0, rounded-behind a l)

rounded-take : (n : ℕ) (l : List Crumb) → Rounded l → Rounded (take n l)
rounded-take zero l h = tt
rounded-take (suc n) [] h = tt
rounded-take (suc n) (a ∷ l) h = (h.0, rounded-take n l h.1)

abbrev R : Track → Type 0
R t = Rounded t.crumbs

put-rounded : (p : Point) (t : Track) → R t → R (put p t).track
unfolding put recorded_m
put-rounded p t h = rounded-snoc t.crumbs _ h (behind-fits (last t.crumbs) p)

thin-rounded : (C : ℕ) → 3 ≤ C → (t : Track) → length t.crumbs ≡ C → R t → R (thin C t).track
unfolding thin
thin-rounded C least t e h = rounded-realong _ (rounded-choice (thins-any C least t.tolerance t.crumbs (omega (arith, e))).choice h)

rounded-steps : (C : ℕ) → 3 ≤ C → Steps C (λ _. Unit {0}) R R
unfolding wait
rounded-steps C least =
    record {
      thins = thin-rounded C least;
      puts = λ p t a h. put-rounded p t h;
      stays = λ t h. h;
      empties = λ t h. h;
      waits = λ p t a h. h;
      waited = λ t p h e. tt;
    }

-- ---- the whole state
abbrev pub Measured : State → Type 0
Measured s = Framed s.frame × Rounded s.track.crumbs

-- after a rule
abbrev M : {A : Type 0} → Done A → Type 0
M d = Measured d.state

-- a rule leaves it so
abbrev Keeps : {A : Type 0} → (State → Done A) → Type 0
Keeps rule = (s : State) → Measured s → M (rule s)

recorded-measured : (d : trail.TrailDone) (s : State) → Measured s → Rounded d.track.crumbs → M (recorded d s)
unfolding recorded recorded_in
recorded-measured d s h k = (h.0, k)

engaged : (course : List Crumb) (on : Line) (segment now : ℕ) (s : State) → Measured s → Measured (engage_at course on segment now s)
unfolding engage_at
engaged course on segment now s h = h

engage-measured : (course : List Crumb) (now : ℕ) → Keeps (engage course now)
unfolding engage
engage-measured course now s h = one_of M (leads s.track.crumbs) (λ _. engaged course line.Breadcrumb _ now s h) (λ _. h)

join-on : (j : Option ℕ) → Keeps (join_on j)
unfolding join_on
join-on None s h = h
join-on (Some n) s h = h

joining-measured : (course : List Crumb) (p : Point) → Keeps (joining course p)
unfolding joining
joining-measured course p s h = join-on _ s h

retracing-measured : (p : Point) → Keeps (retracing p)
unfolding retracing with_retrace
retracing-measured p s h = one_of M (rides_back s.motion.heading s.track.crumbs p) (λ _. h) (λ _. h)

stop-course : (s : State) → Measured s → Measured (stop_course s)
unfolding stop_course
stop-course s h = h

module _ (C : ℕ) (least : 3 ≤ C) where
  keep-measured : (p : Point) → Keeps (keep_in C p)
  unfolding keep_in
  keep-measured p s h = recorded-measured (trail.keep C p s.track) s h (keeps (rounded-steps C least) p s.track tt h.1)

  add-measured : (p : Point) → Keeps (add_in C p)
  unfolding add_in
  add-measured p s h = recorded-measured (trail.add C p s.track) s h (adds (rounded-steps C least) p s.track tt h.1)

  flush-measured : Keeps (flush_in C)
  unfolding flush_in
  flush-measured s h = recorded-measured (trail.flush C s.track) s h (flushes (rounded-steps C least) s.track h.1)

  -- ---- following ends
  leave-at : (x : Option Point) (segment : ℕ) → Keeps (leave_at C x segment)
  unfolding leave_at cut_to
  leave-at None segment s h = h
  leave-at (Some p) segment s h = keep-measured p (cut_to segment s) (h.0, rounded-take segment s.track.crumbs h.1)

  stop-on : (l : Line) → Keeps (stop_on l C)
  unfolding stop_on stop_nothing stop_breadcrumb forgotten
  stop-on line.Nothing s h = h
  stop-on line.Course s h = stop-course s h
  stop-on line.Breadcrumb s h = leave-at s.follow.matched s.follow.segment _ h

  stop-measured : Keeps (stop C)
  unfolding stop
  stop-measured s h = stop-on s.follow.line s h

  -- ---- the guide brought up to date
  module _ (course : List Crumb) where
    arrival : (was long : Bool) (straight : Float) (e : Event) → Keeps (arrival_from was long straight e)
    unfolding arrival_from
    arrival true long straight e s h = either M (lt leave_m straight) (λ _. h) (λ _. h)
    arrival false long straight e s h = either M (long && lt straight arrive_m) (λ _. h) (λ _. h)

    finished-measured : (p : Point) (w : Way) (e : Event) → Keeps (finished course p w e)
    unfolding finished
    finished-measured p w e s h = arrival s.arrived _ _ e s h

    direct-measured : (p : Point) → Keeps (direct course p)
    unfolding direct
    direct-measured p s h = finished-measured p _ event.Nothing s h

    module _ (p : Point) (now : ℕ) where
      matched-at : (n : Nearest) → Keeps (matched_at course p now n)
      unfolding matched_at
      matched-at n s h = finished-measured p _ _ _ h

      ended-with : (e : Event) → Keeps (ended_with e C course p now)
      unfolding ended_with begun
      ended-with e s h = direct-measured p _ (stop-measured s h)

      matched_to_lem : (n : Nearest) → Keeps (matched_to C course p now n)
      unfolding matched_to
      matched_to_lem n s h =
          either M (lt drop_m n.off) (λ _. ended-with event.Dropped s h)
          (λ _. either M (at_course_end s n) (λ _. ended-with event.CourseEnd s h) (λ _. matched-at n s h))

      match-from : (found : Option Nearest) → Keeps (match_from found C course p now)
      unfolding match_from
      match-from None s h = h
      match-from (Some n) s h = matched_to_lem (widened course p n s) s h

      follow-on : Keeps (follow_on C course p now)
      unfolding follow_on
      follow-on s h = match-from _ s h

      update-measured : Keeps (update C course p now)
      unfolding update begun
      update-measured s h =
          let t = begun p now s in
          either M (on_line t.follow.line && leb 2 (length (followed course t))) (λ _. follow-on t h) (λ _. direct-measured p t h)

      -- ---- a fix
      add-update : Keeps (add_update C course p now)
      unfolding add_update
      add-update s h = update-measured _ (add-measured p s h)

      joined-course : Keeps (joined_course C course p now)
      unfolding joined_course tell_following
      joined-course s h = add-update _ (engaged course line.Course s.course.join_end now s h)

      turned-back : (s : State) → Measured s → Measured (turned_back s)
      unfolding turned_back forgotten cut_to
      turned-back s h = (h.0, rounded-take s.track.retrace_len s.track.crumbs h.1)

      engaged-back : (b : Bool) → Keeps (engaged_back b C course p now)
      unfolding engaged_back tell_following
      engaged-back true s h = update-measured s h
      engaged-back false s h = add-update s h

      retraced-measured : (b : Bool) → Keeps (retraced b C course p now)
      unfolding retraced
      retraced-measured true s h = engaged-back _ _ (engage-measured course now (turned_back s) (turned-back s h))
      retraced-measured false s h = add-update s h

      may-retrace : (b : Bool) → Keeps (may_retrace b C course p now)
      unfolding may_retrace
      may-retrace true s h = retraced-measured _ _ (retracing-measured p s h)
      may-retrace false s h = add-update s h

      joined-or-not : (b : Bool) → Keeps (joined_or_not b C course p now)
      unfolding joined_or_not
      joined-or-not true s h = joined-course s h
      joined-or-not false s h = may-retrace s.auto_follow s h

      fix-on : (l : Line) → Keeps (fix_on l C course p now)
      unfolding fix_on
      fix-on line.Breadcrumb s h = update-measured s h
      fix-on line.Course s h = add-update s h
      fix-on line.Nothing s h = joined-or-not _ _ (joining-measured course p s h)

    module _ (now : ℕ) where
      still-at : (here : Option Point) → Keeps (still_at here C course now)
      unfolding still_at headed
      still-at None s h = h
      still-at (Some p) s h =
          either M (ltb (elapsed now s.updated_ms) still_ms) (λ _. h) (λ _. update-measured p now (headed p now s) h)

      new-fix : (x : Fix) → FixOnGlobe x → Keeps (new_fix C course x now)
      unfolding new_fix arrived_at headed
      new-fix x g s h = fix-on _ now s.follow.line (arrived_at x now s) (located-framed x s.frame g h.0, h.1)

      seen-measured : (x : Fix) → FixOnGlobe x → Keeps (seen C course x now)
      unfolding seen
      seen-measured x g s h =
          either M (same_fix s.fed x) (λ _. still-at s.here (with_here_ms now s) h) (λ _. new-fix x g (with_here_ms now s) h)

      missing-measured : Keeps (missing now)
      unfolding missing cleared
      missing-measured s h = one_of Measured (is_some s.here && ltb fix_lost_ms (elapsed now s.here_ms)) (λ _. h) (λ _. h)

      observe-measured : (x : Option Fix) → FixesOnGlobe (point_of x) → Keeps (observe C course x now)
      unfolding observe
      observe-measured (Some x) g s h = seen-measured x g.0 s h
      observe-measured None g s h = missing-measured s h

      -- ---- following, by the rider
      update_here_lem : (here : Option Point) → Keeps (update_here here C course now)
      unfolding update_here
      update_here_lem None s h = h
      update_here_lem (Some p) s h = update-measured p now s h

      brought-measured : Keeps (brought C course now)
      unfolding brought
      brought-measured s h = update_here_lem s.here s h

      engaged-or : (b : Bool) → Keeps (engaged_or b C course now)
      unfolding engaged_or
      engaged-or true s h = brought-measured s h
      engaged-or false s h = h

      way_home_lem : Keeps (way_home C course now)
      unfolding way_home
      way_home_lem s h = engaged-or _ _ (engage-measured course now _ (flush-measured s h))

      follow-measured : (found : Option Nearest) → Keeps (follow found C course now)
      unfolding follow
      follow-measured (Some n) s h = brought-measured _ (engaged course line.Course n.end now s h)
      follow-measured None s h = way_home_lem s h

      follow-from : (l : Line) → Keeps (follow_from l C course now)
      unfolding follow_from
      follow-from line.Nothing s h = follow-measured (near_here s.here course) s h
      follow-from line.Breadcrumb s h = brought-measured s h
      follow-from line.Course s h = brought-measured s h

      following-measured : (on : Bool) → Keeps (set_following on C course now)
      unfolding set_following
      following-measured true s h = follow-from s.follow.line s h
      following-measured false s h = brought-measured _ (stop-measured s h)

  auto-off : (was : Bool) → Keeps (auto_off was C)
  unfolding auto_off
  auto-off true s h = stop-measured s h
  auto-off false s h = h

  auto-measured : (on : Bool) → Keeps (set_auto_follow on C)
  unfolding set_auto_follow
  auto-measured true s h = h
  auto-measured false s h = auto-off s.auto_follow s h

  replay-measured : (x : Fix) (now : ℕ) → FixOnGlobe x → Keeps (replay C x now)
  unfolding replay headed pass_only
  replay-measured x now g s h = add-measured _ _ (located-framed x s.frame g h.0, h.1)

-- ---- the guide made anew, and its course
reset-measured : Keeps reset
unfolding reset trail.reset_track
reset-measured s h = (record { origin = tt; factor = h.0.factor }, tt)

off-course : (l : Line) (s : State) → Measured s → Measured (off_course l s)
unfolding off_course
off-course line.Course s h = stop-course s h
off-course line.Nothing s h = h
off-course line.Breadcrumb s h = h

course-measured : (xs : List Fix) → Keeps (set_course xs)
unfolding set_course
course-measured xs s h = off-course s.follow.line s h

pub new-measured : Measured new
unfolding new fresh
new-measured = (record { origin = tt; factor = factor-start }, tt)

-- ---- every call that no question refuses
place-globe : (x : Option Fix) → asks_place x ≡ 0 → FixesOnGlobe (point_of x)
unfolding asks_place
place-globe (Some x) e = let l = fix-given x e in
    (record { latitude = l.latitude; longitude = l.longitude }, tt)
place-globe None e = tt

fix-globe : (x : Fix) → asks_place (Some x) ≡ 0 → FixOnGlobe x
fix-globe x e = (place-globe (Some x) e).0

module _ (size : ℕ) (least : 3 ≤ capacity size) where
  performs-measured : (c : Call) (s : State) → asks size c s ≡ 0 → Measured s → M (performs (capacity size) c s)
  unfolding performs asks asks_place end_replay
  performs-measured Reset s e h = reset-measured s h
  performs-measured (SetCourse b xs) s e h = course-measured xs s h
  performs-measured (SetAutoFollow on) s e h = auto-measured (capacity size) least on s h
  performs-measured (Observe b x now) s e h =
      observe-measured (capacity size) least (course_in b s) now x (place-globe x (neither (asks_both size b s) (asks_place x) e).1) s h
  performs-measured (Replay x now) s e h =
      replay-measured (capacity size) least x now (fix-globe x (neither (asks_crumbs size s) _ e).1) s h
  performs-measured EndReplay s e h = h
  performs-measured (SetFollowing b on now) s e h = following-measured (capacity size) least (course_in b s) now on s h
  performs-measured (Ask q) s e h = h

  pub turn-measured : (c : Call) (s : State) → Measured s → M (after_call size c s)
  unfolding after_call
  turn-measured c s h = either M (eqb (asks size c s) 0) (λ t. performs-measured c s (eqb-true (asks size c s) 0 t) h) (λ _. h)
