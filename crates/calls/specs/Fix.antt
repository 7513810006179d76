-- A fix taken: `observe`, `replay`, `end_replay`. Document 01, "Fix"; homing.rs.
use Rattle.std.specs.Prelude.{ℕ, Bool, true, false, ◌&&◌, cond, List, ltb, Option, Some, None}
use Rattle.std.specs.Option.{is_some}
use Rattle.std.specs.Ordering.{int_eq}
use Rattle.plane.specs.declared.Point.{Point}
use Rattle.plane.specs.declared.Fix.{Fix}
use Rattle.crumbs.specs.declared.Crumb.{Crumb}
use Rattle.motion.specs.declared.Motion.{Motion}
use Rattle.motion.specs.Heading.{elapsed, track_heading}
use Rattle.lap.specs.Lap.{step_pass}
use Rattle.state.specs.declared.Line.{Line}
use Rattle.state.specs.declared.Line.TheVariants as line
use Rattle.state.specs.declared.Event.{Event}
use Rattle.state.specs.declared.Event.TheVariants as event
use Rattle.state.specs.declared.Course.{Course}
use Rattle.state.specs.State.{State, with_track, with_frame, with_fed, with_here, with_here_ms, with_motion, with_course, with_lap}
use Rattle.state.specs.State.{with_guide}
use Rattle.state.specs.State.{course_with}
use Rattle.state.specs.Rule.{Done, done, and_then}
use Rattle.follow.specs.Record.{add_in}
use Rattle.follow.specs.Engage.{cut_to, forgotten, engage_at, engage}
use Rattle.joining.specs.Join.{joining, retracing}
use Rattle.update.specs.Update.{update}
use Rattle.course.specs.Fix.{located, framed}

-- "A missing fix for more than 5,000 ms clears guide and place."
abbrev pub fix_lost_ms : ℕ
fix_lost_ms = 5000

-- "A repeated fix is acted on only after 1,000 ms."
abbrev pub still_ms : ℕ
still_ms = 1000

-- ---- a missing fix
unfoldable pub unfixed : Course → Course
unfixed c = course_with c.line_len c.unplaced c.held c.join_fixes c.join_end c.along c.reached None

unfoldable pub cleared : State → State
cleared s = with_guide None (with_course (unfixed s.course) (with_fed None (with_here None s)))

unfoldable pub missing : ℕ → State → Done Event
missing now s = done event.Nothing (cond (is_some s.here && ltb fix_lost_ms (elapsed now s.here_ms)) (cleared s) s)

-- ---- a repeated fix
unfoldable pub same_fix : Option Fix → Fix → Bool
same_fix (Some fed) x = int_eq fed.lat x.lat && int_eq fed.lon x.lon
same_fix None x = false

-- the heading taken on, in the whole state
unfoldable pub headed : Point → ℕ → State → State
headed p now s = with_motion (track_heading s.motion p now) s

-- time still passes, for the heading and the reminders, but nothing is recorded
unfoldable pub still_at : Option Point → ℕ → List Crumb → ℕ → State → Done Event
still_at None C course now s = done event.Nothing s
still_at (Some p) C course now s =
    elim (ltb (elapsed now s.updated_ms) still_ms) [ true ↦ done event.Nothing s | false ↦ update C course p now (headed p now s) ]

-- ---- a new fix
-- p is added, and the guide brought up to date
unfoldable pub add_update : ℕ → List Crumb → Point → ℕ → State → Done Event
add_update C course p now s = and_then (add_in C p s) λ _ after. update C course p now after

-- following began by itself: whatever the update says, that is told
unfoldable pub tell_following : Done Event → Done Event
tell_following d = record { answer = event.Following; state = d.state; notes = d.notes }

-- long enough along the course
unfoldable pub joined_course : ℕ → List Crumb → Point → ℕ → State → Done Event
joined_course C course p now s =
    tell_following (add_update C course p now (engage_at course line.Course s.course.join_end now s))

-- "The fixes since the turn ran back over the breadcrumb": they are cut off, and nothing waits
unfoldable pub turned_back : State → State
turned_back s = let cut = cut_to s.track.retrace_len s in with_track (forgotten cut.track) cut

-- where what is left leads nowhere, recording goes on
unfoldable pub engaged_back : Bool → ℕ → List Crumb → Point → ℕ → State → Done Event
engaged_back true C course p now s = tell_following (update C course p now s)
engaged_back false C course p now s = add_update C course p now s

-- long enough back along the breadcrumb, or not
unfoldable pub retraced : Bool → ℕ → List Crumb → Point → ℕ → State → Done Event
retraced true C course p now s = and_then (engage course now (turned_back s)) λ b after. engaged_back b C course p now after
retraced false C course p now s = add_update C course p now s

-- whether following may begin by itself
unfoldable pub may_retrace : Bool → ℕ → List Crumb → Point → ℕ → State → Done Event
may_retrace true C course p now s = and_then (retracing p s) λ b after. retraced b C course p now after
may_retrace false C course p now s = add_update C course p now s

unfoldable pub joined_or_not : Bool → ℕ → List Crumb → Point → ℕ → State → Done Event
joined_or_not true C course p now s = joined_course C course p now s
joined_or_not false C course p now s = may_retrace s.auto_follow C course p now s

-- by the line that is followed: the breadcrumb is frozen while it is
unfoldable pub fix_on : Line → ℕ → List Crumb → Point → ℕ → State → Done Event
fix_on line.Breadcrumb C course p now s = update C course p now s
fix_on line.Course C course p now s = add_update C course p now s
fix_on line.Nothing C course p now s = and_then (joining course p s) λ b after. joined_or_not b C course p now after

-- the state at a new fix, before anything is made of it
unfoldable pub arrived_at : Fix → ℕ → State → State
arrived_at x now s =
    let f = located x s.frame in
    headed (framed f x) now
    (with_here (Some (framed f x)) (with_frame f (with_fed (Some x) s)))

unfoldable pub new_fix : ℕ → List Crumb → Fix → ℕ → State → Done Event
new_fix C course x now s =
    fix_on s.follow.line C course (framed (located x s.frame) x) now (arrived_at x now s)

unfoldable pub seen : ℕ → List Crumb → Fix → ℕ → State → Done Event
seen C course x now s =
    elim (same_fix s.fed x) [
      | true ↦ still_at s.here C course now (with_here_ms now s)
      | false ↦ new_fix C course x now (with_here_ms now s)
    ]

-- "a missing fix is taken apart first and ends the call"
unfoldable pub observe : ℕ → List Crumb → Option Fix → ℕ → State → Done Event
observe C course (Some x) now s = seen C course x now s
observe C course None now s = missing now s

-- ---- a fix from before a restart
-- the start pass is moved on, but no lap is taken
unfoldable pub pass_only : Point → State → State
pass_only p s =
    let l = step_pass s.lap p s.motion.heading in
    with_lap (record { pass = l.pass; start = l.start; passed = s.lap.passed }) s

unfoldable pub replay : ℕ → Fix → ℕ → State → Done (Unit {0})
replay C x now s =
    let f = located x s.frame in
    let p = framed f x in
    and_then (add_in C p (headed p now (with_frame f s))) λ _ after. done tt (pass_only p after)

-- the heading starts again from the next fix
unfoldable pub unheaded : Motion → Motion
unheaded m = record { from = None; heading = None; heading_ms = m.heading_ms }

unfoldable pub end_replay : State → Done (Unit {0})
end_replay s = done tt (with_motion (unheaded s.motion) s)
