-- The guide after a fix. Document 01, "Guide and event"; homing.rs, `update`.
use Rattle.std.specs.Prelude.{ℕ, Bool, true, false, ◌&&◌, List, leb, length, Float, Option, Some, None}
use Rattle.std.specs.Float.Ieee.{lt, le}
use Rattle.binary32.specs.Arithmetic.{constant}
use Rattle.plane.specs.declared.Point.{Point}
use Rattle.crumbs.specs.declared.Crumb.{Crumb}
use Rattle.lap.specs.Lap.{step_pass}
use Rattle.segments.specs.declared.costs.Nearest.{Nearest}
use Rattle.matching.specs.Distances.{drop_m}
use Rattle.state.specs.declared.Event.{Event}
use Rattle.state.specs.declared.Event.TheVariants as event
use Rattle.state.specs.State.{State, with_follow, with_course, with_lap, with_updated_ms}
use Rattle.state.specs.Rule.{Done, done, and_then}
use Rattle.follow.specs.Engage.{stop}
use Rattle.matching.specs.Match.{around_segment, course_matched, due, follow_matched, off_event, off_now, on_course, on_line}
use Rattle.matching.specs.Followed.{followed, nearest, way_on, widened}
use Rattle.guide.specs.Guide.{arrive_m, direct, finished}

-- every update begins so: it is timed, and the lap is stepped
unfoldable pub begun : Point → ℕ → State → State
begun p now s = with_updated_ms now (with_lap (step_pass s.lap p s.motion.heading) s)

unfoldable pub matched_at : List Crumb → Point → ℕ → Nearest → State → Done Event
matched_at course p now near s =
    let off = off_now s.follow.off near.off in
    let e = off_event s.follow.off off (due s.follow now) in
    finished course p (way_on off (followed course s) near) e
    (with_follow (follow_matched near off e now s.follow) (with_course (course_matched near p s.course) s))

-- "`update` calling itself: following falls": following ends, and the guide is made anew without it
unfoldable pub ended_with : Event → ℕ → List Crumb → Point → ℕ → State → Done Event
ended_with e C course p now s =
    and_then (stop C s) λ _ after. and_then (direct course p (begun p now after)) λ _ last. done e last

-- "Course end: off ≤ 25 and along < 30."
unfoldable pub course_end_m : Float
course_end_m = constant 25 1

unfoldable pub at_course_end : State → Nearest → Bool
at_course_end s near = on_course s.follow.line && le near.off course_end_m && lt near.along arrive_m

-- "Dropped above 500 m."
unfoldable pub matched_to : ℕ → List Crumb → Point → ℕ → Nearest → State → Done Event
matched_to C course p now near s =
    elim (lt drop_m near.off) [
      | true ↦ ended_with event.Dropped C course p now s
      | false ↦
          elim (at_course_end s near) [
            | true ↦ ended_with event.CourseEnd C course p now s
            | false ↦ matched_at course p now near s
          ]
    ]

-- where no segment is in reach the guide stays as it was
unfoldable pub match_from : Option Nearest → ℕ → List Crumb → Point → ℕ → State → Done Event
match_from None C course p now s = done event.Nothing s
match_from (Some near) C course p now s = matched_to C course p now (widened course p near s) s

unfoldable pub follow_on : ℕ → List Crumb → Point → ℕ → State → Done Event
follow_on C course p now s =
    let ends = around_segment s.follow.segment (length (followed course s)) in
    match_from (nearest s.follow.line course p ends s) C course p now s

unfoldable pub update : ℕ → List Crumb → Point → ℕ → State → Done Event
update C course p now s =
    let t = begun p now s in
    elim (on_line t.follow.line && leb 2 (length (followed course t))) [
      | true ↦ follow_on C course p now t
      | false ↦ direct course p t
    ]
