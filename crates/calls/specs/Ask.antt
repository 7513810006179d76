-- What the guide answers when it is asked, and changes nothing. homing.rs.
use Rattle.std.specs.Prelude.{ℕ, Bool, List, [], ◌∷◌, length, Option, Some, None}
use Rattle.state.specs.declared.Guide.{Guide}
use Rattle.binary32.specs.Casts.{as_u32}
use Rattle.plane.specs.declared.Point.{Point}
use Rattle.plane.specs.Plane.{distance}
use Rattle.crumbs.specs.declared.Crumb.{Crumb}
use Rattle.crumbs.specs.Along.{recorded_m, start_of}
use Rattle.state.specs.declared.Ahead.{Ahead}
use Rattle.state.specs.declared.Back.{Back}
use Rattle.state.specs.declared.Line.{Line}
use Rattle.state.specs.declared.Line.TheVariants as line
use Rattle.state.specs.declared.Follow.{Follow}
use Rattle.state.specs.State.{State}
use Rattle.matching.specs.Match.{on_course, on_line}

-- how many crumbs are held
unfoldable pub len : State → ℕ
len s = length s.track.crumbs

-- whether a line is followed, and whether it is the course
unfoldable pub following : State → Bool
following s = on_line s.follow.line

unfoldable pub following_course : State → Bool
following_course s = on_course s.follow.line

-- the way on: the line's first `end` points, and then the point where the rider is, if matched yet
unfoldable pub ahead_of : Follow → Ahead
ahead_of f = record { end = f.segment; point = f.matched }

-- `course_ahead`: while the course is followed
unfoldable pub course_ahead_on : Line → Follow → Option Ahead
course_ahead_on line.Course f = Some (ahead_of f)
course_ahead_on line.Nothing f = None
course_ahead_on line.Breadcrumb f = None

unfoldable pub course_ahead : State → Option Ahead
course_ahead s = course_ahead_on s.follow.line s.follow

-- `route_home`: while the breadcrumb is followed
unfoldable pub route_home_on : Line → Follow → Option Ahead
route_home_on line.Breadcrumb f = Some (ahead_of f)
route_home_on line.Nothing f = None
route_home_on line.Course f = None

unfoldable pub route_home : State → Option Ahead
route_home s = route_home_on s.follow.line s.follow

-- `way_back`: metres straight to the start, and back over the track, each toward zero
unfoldable pub way_back_from : Option Point → List Crumb → Option Back
way_back_from None l = None
way_back_from (Some p) [] = None
way_back_from (Some p) (a ∷ l) =
    Some (record { direct = as_u32 (distance p (start_of (a ∷ l) p)); track = as_u32 (recorded_m (a ∷ l) p) })

unfoldable pub way_back : State → Option Back
way_back s = way_back_from s.here s.track.crumbs

unfoldable pub heading : State → Option ℕ
heading s = s.motion.heading

unfoldable pub guide : State → Option Guide
guide s = s.guide
