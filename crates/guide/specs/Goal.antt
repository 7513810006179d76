-- Where the rider is to arrive, and what the guide shows by it. Document 01, "Guide and event"; homing.rs, `update`.
use Rattle.std.specs.Prelude.{◌-◌, Bool, true, false, ◌&&◌, not, cond, List, [], ◌∷◌, leb, length, Float, Option, Some, None}
use Rattle.std.specs.Float.Ieee.{lt, le}
use Rattle.binary32.specs.Arithmetic.{constant}
use Rattle.binary32.specs.Limits.{one}
use Rattle.plane.specs.declared.Point.{Point}
use Rattle.plane.specs.Plane.{distance}
use Rattle.crumbs.specs.declared.Crumb.{Crumb}
use Rattle.crumbs.specs.Crumb.{point}
use Rattle.segments.specs.declared.costs.Nearest.{Nearest}
use Rattle.crumbs.specs.Line.{at}
use Rattle.search.specs.Course.{course_near}
use Rattle.state.specs.declared.Line.{Line}
use Rattle.state.specs.declared.Line.TheVariants as line
use Rattle.state.specs.declared.Mode.{Mode}
use Rattle.state.specs.declared.Mode.TheVariants as mode
use Rattle.matching.specs.Distances.{drop_m}

-- once the breadcrumb is this long
unfoldable pub min_track_m : Float
min_track_m = constant 300 1

-- where the rider is to arrive: the course's end while it is followed, else the start
unfoldable pub goal_on : Line → List Crumb → Point → Point
goal_on line.Course (end ∷ course) start = point end
goal_on line.Course [] start = start
goal_on line.Nothing course start = start
goal_on line.Breadcrumb course start = start

-- ---- arriving
-- the breadcrumb is long enough to arrive at its start; following a course, the end that counts is the course's
unfoldable pub long_enough : Bool → List Crumb → Bool
long_enough course crumbs = not course && leb 2 (length crumbs) && le min_track_m (at crumbs (length crumbs - 1)).along

-- ---- the guide
unfoldable pub mode_of : Bool → Mode → Mode
mode_of true m = mode.Arrived
mode_of false m = m

-- within a metre of the target the goal is shown
unfoldable pub aim : Point → Point → Point → Point
aim p goal target = cond (lt (distance p target) one) goal target

unfoldable pub found_any : Option Nearest → Bool
found_any None = false
found_any (Some near) = true

-- the course is near where nothing is followed and it lies within 500 m
unfoldable pub near_course : Line → List Crumb → Point → Bool
near_course line.Nothing course p = found_any (course_near course p drop_m)
near_course line.Breadcrumb course p = false
near_course line.Course course p = false
