-- The guide shown. Document 01, "Guide and event"; homing.rs, `update`.
use Rattle.std.specs.Prelude.{Bool, true, false, ◌&&◌, List, Float, Some}
use Rattle.std.specs.Float.Ieee.{lt}
use Rattle.binary32.specs.Arithmetic.{constant}
use Rattle.binary32.specs.Limits.{plus_zero}
use Rattle.plane.specs.declared.Point.{Point}
use Rattle.plane.specs.Plane.{distance, bearing, metres}
use Rattle.crumbs.specs.declared.Crumb.{Crumb}
use Rattle.crumbs.specs.Along.{recorded_m, start_of}
use Rattle.state.specs.declared.Mode.TheVariants as mode
use Rattle.state.specs.declared.Event.{Event}
use Rattle.state.specs.declared.Event.TheVariants as event
use Rattle.state.specs.declared.Guide.{Guide}
use Rattle.state.specs.declared.Follow.{Follow}
use Rattle.state.specs.State.{State, with_follow, with_arrived, with_guide}
use Rattle.state.specs.Rule.{Done, done}
use Rattle.matching.specs.declared.followed.Way.{Way}
use Rattle.matching.specs.Match.{on_course, on_line}
use Rattle.guide.specs.Goal.{aim, goal_on, long_enough, mode_of, near_course}

-- "Course end: off ≤ 25 and along < 30."; at the start within this too
unfoldable pub arrive_m : Float
arrive_m = constant 30 1

-- arrives again only after leaving by this
unfoldable pub leave_m : Float
leave_m = constant 80 1

unfoldable pub off_cleared : Follow → Follow
off_cleared f = record { line = f.line; segment = f.segment; matched = f.matched; off = false; reminded_ms = f.reminded_ms }

-- arrived or left: `was` says whether the rider had arrived
unfoldable pub arrival_from : Bool → Bool → Float → Event → State → Done Event
arrival_from true long direct e s = elim (lt leave_m direct) [ true ↦ done e (with_arrived false s) | false ↦ done e s ]
arrival_from false long direct e s =
    elim (long && lt direct arrive_m) [
      | true ↦ done event.Arrived (with_arrived true (with_follow (off_cleared s.follow) s))
      | false ↦ done e s
    ]

unfoldable pub guide_at : List Crumb → Point → Point → Float → Way → State → Guide
guide_at course p goal direct w s =
    record {
      mode = mode_of s.arrived w.mode;
      following = on_line s.follow.line;
      course = on_course s.follow.line;
      course_near = near_course s.follow.line course p;
      direct_m = metres direct;
      track_m = metres w.track;
      off_m = metres w.off;
      bearing = bearing p (aim p goal w.target);
      heading = s.motion.heading;
    }

-- every update that shows a guide ends so
unfoldable pub finished : List Crumb → Point → Way → Event → State → Done Event
finished course p w e s =
    let goal = goal_on s.follow.line course (start_of s.track.crumbs p) in
    let direct = distance p goal in
    let long = long_enough (on_course s.follow.line) s.track.crumbs in
    let a = arrival_from s.arrived long direct e s in
    done a.answer (with_guide (Some (guide_at course p goal direct w a.state)) a.state)

-- nothing to follow: straight to the start
unfoldable pub direct : List Crumb → Point → State → Done Event
direct course p s =
    let crumbs = s.track.crumbs in
    finished course p
    (record { mode = mode.Direct; track = recorded_m crumbs p; off = plus_zero; target = start_of crumbs p }) event.Nothing s
