-- Following begins and ends. homing.rs, `engage`, `engage_at`, `stop_following`.
use Rattle.std.specs.Prelude.{ℕ, ◌-◌, Bool, true, false, cond, List, [], length, take, Option, Some, None}
use Rattle.plane.specs.declared.Point.{Point}
use Rattle.crumbs.specs.declared.Crumb.{Crumb}
use Rattle.trail.specs.Trail.{Track, with_crumbs}
use Rattle.state.specs.declared.Line.{Line}
use Rattle.state.specs.declared.Line.TheVariants as line
use Rattle.state.specs.State.{State, with_track, with_follow, with_course}
use Rattle.state.specs.Rule.{Done, done}
use Rattle.follow.specs.Parts.{course_from, leads, stopped, held_off}
use Rattle.follow.specs.Record.{keep_in}

-- follow a line from its segment `end`
unfoldable pub engage_at : List Crumb → Line → ℕ → ℕ → State → State
engage_at course on end now s =
    with_follow (record { line = on; segment = end; matched = None; off = false; reminded_ms = now })
    (with_course (course_from course end s.course) s)

-- follow the breadcrumb from its last segment, if it leads anywhere
unfoldable pub engage : List Crumb → ℕ → State → Done Bool
engage course now s =
    cond (leads s.track.crumbs)
    (done true (engage_at course line.Breadcrumb (length s.track.crumbs - 1) now s))
    (done false s)

-- the breadcrumb's first n crumbs
unfoldable pub cut_to : ℕ → State → State
cut_to n s = with_track (with_crumbs (take n s.track.crumbs) s.track) s

-- "The matched point kept when following ends": the breadcrumb ends where the rider left it
unfoldable pub leave_at : ℕ → Option Point → ℕ → State → Done (Unit {0})
leave_at C None segment s = done tt s
leave_at C (Some p) segment s = keep_in C p (cut_to segment s)

-- nothing waits, and no turn-round is counted
unfoldable pub forgotten : Track → Track
forgotten t = record { crumbs = t.crumbs; tolerance = t.tolerance; window = []; retrace = 0; retrace_len = t.retrace_len }

-- following ends, by the line that was followed
unfoldable pub stop_nothing : State → State
stop_nothing s = with_follow (stopped s.follow.matched s.follow) s

unfoldable pub stop_course : State → State
stop_course s = with_follow (stopped None s.follow) (with_course (held_off s.course) s)

unfoldable pub stop_breadcrumb : ℕ → State → Done (Unit {0})
stop_breadcrumb C s =
    leave_at C s.follow.matched s.follow.segment
    (with_follow (stopped None s.follow) (with_track (forgotten s.track) s))

unfoldable pub stop_on : Line → ℕ → State → Done (Unit {0})
stop_on line.Nothing C s = done tt (stop_nothing s)
stop_on line.Course C s = done tt (stop_course s)
stop_on line.Breadcrumb C s = stop_breadcrumb C s

unfoldable pub stop : ℕ → State → Done (Unit {0})
stop C s = stop_on s.follow.line C s
