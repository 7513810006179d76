-- The guide made anew, and its course: `new`, `reset`, `set_course`. Document 01, "Course line", "Journal"; homing.rs.
use Rattle.std.specs.Prelude.{ℕ, Bool, true, false, ◌||◌, List, leb, length, Float, None}
use Rattle.binary32.specs.Limits.{plus_zero}
use Rattle.plane.specs.declared.Fix.{Fix}
use Rattle.plane.specs.Fix.{m_per_e7}
use Rattle.motion.specs.declared.Motion.{Motion}
use Rattle.lap.specs.declared.Stage.TheVariants.{Spent}
use Rattle.lap.specs.declared.Lap.{Lap}
use Rattle.trail.specs.Trail.{Track, fresh}
use Rattle.trail.specs.Trail as trail
use Rattle.state.specs.declared.Line.{Line}
use Rattle.state.specs.declared.Line.TheVariants as line
use Rattle.state.specs.declared.Follow.{Follow}
use Rattle.state.specs.declared.Course.{Course}
use Rattle.state.specs.State.{State, with_course, course_with}
use Rattle.state.specs.Rule.{Done, done}
use Rattle.follow.specs.Engage.{stop_course}
use Rattle.course.specs.Course.{line_of, waits}
use Rattle.calls.specs.Fix.{unheaded}

-- no pass of the start is under way
unfoldable pub no_lap : Lap
no_lap = record { pass = record { stage = Spent }; start = None; passed = false }

-- a ride that begins: nothing is followed or known, and what is given here stays from before
abbrev pub new_ride : Track → Float → ℕ → Motion → Follow → Course → Bool → ℕ → State
new_ride track east here_ms motion follow course auto_follow updated_ms =
    record {
      track = track;
      frame = record { origin = None; east_per_e7 = east };
      fed = None;
      here = None;
      here_ms = here_ms;
      motion = motion;
      follow = follow;
      course = course;
      auto_follow = auto_follow;
      arrived = false;
      lap = no_lap;
      updated_ms = updated_ms;
      guide = None;
    }

abbrev pub unfollowed : ℕ → Follow
unfollowed reminded = record { line = line.Nothing; segment = 0; matched = None; off = false; reminded_ms = reminded }

-- `new`: nothing is recorded, and a course may be followed by itself
unfoldable pub new : State
new =
    new_ride fresh m_per_e7 0 (record { from = None; heading = None; heading_ms = 0 }) (unfollowed 0)
    (course_with 0 false false 0 0 plus_zero plus_zero None) true 0

-- a course of n points that waits for the ride's first fix or not, joined by no fix yet
unfoldable pub lined : ℕ → Bool → Bool → Course → Course
lined n unplaced held c = course_with n unplaced held 0 c.join_end c.along c.reached c.fix

-- "A loaded course stays, to be placed again": its line is emptied
unfoldable pub awaiting : Course → Course
awaiting c = lined 0 (c.unplaced || leb 2 c.line_len) false c

-- `reset`: a new ride starts where its first fix is. The east factor, the clocks, `retrace_len`, where the course was joined and matched,
-- and whether following may begin by itself stay, as in the Rust.
unfoldable pub reset : State → Done (Unit {0})
reset s =
    let d = trail.reset_track s.track in
    let after = new_ride d.track s.frame.east_per_e7 s.here_ms (unheaded s.motion) (unfollowed s.follow.reminded_ms)
    (awaiting s.course) s.auto_follow s.updated_ms in
    record { answer = tt; state = after; notes = d.notes }

-- a following of the course ends; one of the breadcrumb goes on
unfoldable pub off_course : Line → State → State
off_course line.Course s = stop_course s
off_course line.Nothing s = s
off_course line.Breadcrumb s = s

-- `set_course`: the line is `line_of` of the frame and the points
unfoldable pub set_course : List Fix → State → Done (Unit {0})
set_course xs s =
    let t = off_course s.follow.line s in
    done tt (with_course (lined (length (line_of s.frame xs)) (waits s.frame xs) t.course.held t.course) t)
