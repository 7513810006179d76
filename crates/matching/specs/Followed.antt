-- The followed line, and the way on along it. Document 01, "Guide and event"; homing.rs, `nearest`, `update`.
use Rattle.std.specs.Prelude.{◌-◌, Bool, true, false, ◌||◌, List, length, Option}
use Rattle.std.specs.Float.Ieee.{lt}
use Rattle.binary32.specs.Arithmetic.{◌⊕◌, ◌⊖◌}
use Rattle.binary32.specs.Limits.{max_zero}
use Rattle.plane.specs.declared.Point.{Point}
use Rattle.crumbs.specs.declared.Crumb.{Crumb}
use Rattle.segments.specs.declared.costs.Nearest.{Nearest}
use Rattle.search.specs.declared.Range.{Range}
use Rattle.search.specs.declared.course_match.Progress.{Progress}
use Rattle.search.specs.Search.{nearest_on_breadcrumb}
use Rattle.search.specs.CourseMatch.{nearest_on_course}
use Rattle.search.specs.Along.{at_along}
use Rattle.state.specs.declared.Line.{Line}
use Rattle.state.specs.declared.Line.TheVariants as line
use Rattle.state.specs.declared.Mode.TheVariants as mode
use Rattle.state.specs.State.{State}
use Rattle.matching.specs.declared.followed.Way.{Way}
use Rattle.matching.specs.Distances.{off_m, lookahead_m}
use Rattle.matching.specs.Match.{nearer}

-- the crumbs of the line followed: the course while it is followed, else the breadcrumb
unfoldable pub followed_on : Line → List Crumb → List Crumb → List Crumb
followed_on line.Course course crumbs = course
followed_on line.Nothing course crumbs = crumbs
followed_on line.Breadcrumb course crumbs = crumbs

abbrev pub followed : List Crumb → State → List Crumb
followed course s = followed_on s.follow.line course s.track.crumbs

unfoldable pub progress : State → Progress
progress s = record { along = s.course.along; reached = s.course.reached; fix = s.course.fix; heading = s.motion.heading }

unfoldable pub nearest : Line → List Crumb → Point → Range → State → Option Nearest
nearest line.Course course p ends s = nearest_on_course course p ends (progress s)
nearest line.Nothing course p ends s = nearest_on_breadcrumb s.track.crumbs p ends
nearest line.Breadcrumb course p ends s = nearest_on_breadcrumb s.track.crumbs p ends

-- off the line the whole of it is searched
unfoldable pub widened : List Crumb → Point → Nearest → State → Nearest
widened course p near s =
    elim (s.follow.off || lt off_m near.off) [
      | true ↦ nearer near (nearest s.follow.line course p (record { from = 1; to = length (followed course s) - 1 }) s)
      | false ↦ near
    ]

-- off the line the way is back to it; on it, to a point a little way ahead
unfoldable pub way_on : Bool → List Crumb → Nearest → Way
way_on true l near = record { mode = mode.OffTrack; track = near.along ⊕ near.off; off = near.off; target = near.point }
way_on false l near =
    let target = at_along l near.end (max_zero (near.along ⊖ lookahead_m)) in
    record { mode = mode.Track; track = near.along ⊕ near.off; off = near.off; target = target }
