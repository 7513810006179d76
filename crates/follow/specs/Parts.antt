-- What a following that begins or ends changes in the groups of the state. homing.rs, `engage`, `engage_at`, `stop_following`; document 01,
-- "Crumb": "Added: a thinning while the breadcrumb is followed, which only `replay` can cause, ends the following without a cut: segment 0,
-- nothing matched, off false."
use Rattle.std.specs.Prelude.{ℕ, ◌-◌, Bool, true, false, ◌&&◌, not, cond, List, leb, ltb, length, Float, Option, None}
use Rattle.std.specs.Float.Ieee.{lt}
use Rattle.binary32.specs.Limits.{plus_zero}
use Rattle.plane.specs.declared.Point.{Point}
use Rattle.crumbs.specs.declared.Crumb.{Crumb}
use Rattle.crumbs.specs.Line.{at}
use Rattle.trail.specs.Trail.{min_step_m}
use Rattle.state.specs.declared.Line.{Line}
use Rattle.state.specs.declared.Line.TheVariants as line
use Rattle.state.specs.declared.Follow.{Follow}
use Rattle.state.specs.declared.Course.{Course}
use Rattle.state.specs.State.{course_with}

-- a following of the breadcrumb is over, without a cut; one of the course goes on
unfoldable pub ended_by_thinning : Line → Follow → Follow
ended_by_thinning line.Breadcrumb f =
    record { line = line.Nothing; segment = 0; matched = None; off = false; reminded_ms = f.reminded_ms }
ended_by_thinning line.Nothing f = f
ended_by_thinning line.Course f = f

-- nothing is followed, on or off; the segment and the reminder stay
unfoldable pub stopped : Option Point → Follow → Follow
stopped matched f =
    record { line = line.Nothing; segment = f.segment; matched = matched; off = false; reminded_ms = f.reminded_ms }

-- a course that is stopped is held off for the rest of the ride
unfoldable pub held_off : Course → Course
held_off c = course_with c.line_len c.unplaced true c.join_fixes c.join_end c.along c.reached c.fix

-- metres to the course's end at its place `end`, 0 where the course has none
unfoldable pub along_at : List Crumb → ℕ → Float
along_at course end = cond (ltb end (length course)) (at course end).along plus_zero

-- the course as it is when a following begins at segment `end`, whichever line that is on
unfoldable pub course_from : List Crumb → ℕ → Course → Course
course_from course end c =
    let along = along_at course end in
    course_with c.line_len c.unplaced c.held 0 c.join_end along along None

-- whether the breadcrumb leads anywhere: two crumbs, and 5 m
unfoldable pub leads : List Crumb → Bool
leads crumbs = leb 2 (length crumbs) && not (lt (at crumbs (length crumbs - 1)).along min_step_m)
