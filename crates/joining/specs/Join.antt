-- Following begins by itself: fixes in a row along the course, or back along the breadcrumb. homing.rs, `joining`, `retracing`.
use Rattle.std.specs.Prelude.{ℕ, ◌+◌, min, Bool, false, ◌&&◌, not, cond, List, leb, length, Option, Some, None}
use Rattle.plane.specs.declared.Point.{Point}
use Rattle.crumbs.specs.declared.Crumb.{Crumb}
use Rattle.search.specs.Course.{joined}
use Rattle.trail.specs.Trail.{retrace_fixes, Track}
use Rattle.state.specs.declared.Course.{Course}
use Rattle.state.specs.State.{State, with_track, with_course, course_with}
use Rattle.state.specs.Rule.{Done, done}
use Rattle.joining.specs.Retrace.{len_before, rides_back}

-- ---- along the course
-- this many fixes in a row
abbrev pub join_fixes : ℕ
join_fixes = 5

unfoldable pub joined_to : ℕ → ℕ → Course → Course
joined_to fixes end c = course_with c.line_len c.unplaced c.held fixes end c.along c.reached c.fix

-- a fix on the course, or one that is not; the count stops at the largest u8
unfoldable pub join_on : Option ℕ → State → Done Bool
join_on None s = done false (with_course (joined_to 0 s.course.join_end s.course) s)
join_on (Some end) s =
    let fixes = min (s.course.join_fixes + 1) 255 in
    done (leb join_fixes fixes) (with_course (joined_to fixes end s.course) s)

-- whether the course may be followed by itself: nothing forbids it, and it has two points
unfoldable pub may_join : List Crumb → State → Bool
may_join course s = s.auto_follow && not s.course.held && leb 2 (length course)

unfoldable pub join_with : Option ℕ → List Crumb → Point → State → Option ℕ
join_with None course p s = None
join_with (Some heading) course p s = cond (may_join course s) (joined course p heading) None

-- whether the fix at p continues a ride along the course for long enough to follow it
unfoldable pub joining : List Crumb → Point → State → Done Bool
joining course p s = join_on (join_with s.motion.heading course p s) s

unfoldable pub with_retrace : ℕ → ℕ → Track → Track
with_retrace n len t = record { crumbs = t.crumbs; tolerance = t.tolerance; window = t.window; retrace = n; retrace_len = len }

-- whether the fix at p continues a ride back along the breadcrumb for long enough to follow it
unfoldable pub retracing : Point → State → Done Bool
retracing p s =
    let t = s.track in
    cond (rides_back s.motion.heading t.crumbs p)
    (done (leb retrace_fixes (t.retrace + 1)) (with_track (with_retrace (t.retrace + 1) (len_before t) t) s))
    (done false (with_track (with_retrace 0 t.retrace_len t) s))
