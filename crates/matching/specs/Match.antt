-- A match on the followed line. Document 01, "Guide and event"; homing.rs, `update`.
use Rattle.std.specs.Prelude.{ℕ, ◌+◌, ◌-◌, min, max, Bool, true, false, ◌&&◌, not, cond, leb, Float, Option, Some, None}
use Rattle.std.specs.Float.{nan, inf, fin}
use Rattle.std.specs.Float.Ieee.{lt, le}
use Rattle.plane.specs.declared.Point.{Point}
use Rattle.motion.specs.Heading.{elapsed}
use Rattle.segments.specs.declared.costs.Nearest.{Nearest}
use Rattle.search.specs.declared.Range.{Range}
use Rattle.state.specs.declared.Line.{Line}
use Rattle.state.specs.declared.Line.TheVariants as line
use Rattle.state.specs.declared.Event.{Event}
use Rattle.state.specs.declared.Event.TheVariants as event
use Rattle.state.specs.declared.Follow.{Follow}
use Rattle.state.specs.declared.Course.{Course}
use Rattle.state.specs.State.{course_with}
use Rattle.matching.specs.Distances.{off_m, on_m}

-- "A reminder comes after 60,000 ms, only on the breadcrumb."
abbrev pub remind_ms : ℕ
remind_ms = 60000

-- ---- which line
unfoldable pub on_course : Line → Bool
on_course line.Course = true
on_course line.Nothing = false
on_course line.Breadcrumb = false

unfoldable pub on_line : Line → Bool
on_line line.Nothing = false
on_line line.Breadcrumb = true
on_line line.Course = true

-- ---- the match
-- segments behind and ahead of the last match are searched first
abbrev pub search_back : ℕ
search_back = 64

abbrev pub search_ahead : ℕ
search_ahead = 4

unfoldable pub around_segment : ℕ → ℕ → Range
around_segment segment len = record { from = max (segment - search_back) 1; to = min (segment + search_ahead) (len - 1) }

-- a match elsewhere on the line, if it is nearer
unfoldable pub nearer : Nearest → Option Nearest → Nearest
nearer near None = near
nearer near (Some anywhere) = elim (lt anywhere.off near.off) [ true ↦ anywhere | false ↦ near ]

-- "Off sets above 50 m and clears at 25 m or less."
unfoldable pub off_now : Bool → Float → Bool
off_now true off = lt on_m off
off_now false off = lt off_m off

-- of two numbers the minimum, and the first where they are equal; of a number and a NaN the number, as Rust's `min`
abbrev pub is_number : Float → Bool
is_number nan = false
is_number (inf s) = true
is_number (fin s m e) = true

unfoldable pub minimum : Float → Float → Float
minimum a b = cond (is_number a && is_number b) (cond (le a b) a b) (cond (is_number a) a b)

-- what leaving the line, coming back to it, or staying off it tells, by whether it was off, is off, and what is followed
unfoldable pub off_event : Bool → Bool → Bool → Event
off_event false true due = event.OffTrack
off_event true false due = event.OnTrack
off_event true true due = cond due event.OffTrack event.Nothing
off_event false false due = event.Nothing

-- whether a reminder is due
unfoldable pub due : Follow → ℕ → Bool
due f now = not (on_course f.line) && leb remind_ms (elapsed now f.reminded_ms)

-- off since now, or reminded now
unfoldable pub reminded_at : Event → ℕ → ℕ → ℕ
reminded_at event.OffTrack now was = now
reminded_at event.Nothing now was = was
reminded_at event.Following now was = was
reminded_at event.OnTrack now was = was
reminded_at event.Dropped now was = was
reminded_at event.Arrived now was = was
reminded_at event.CourseEnd now was = was

unfoldable pub follow_matched : Nearest → Bool → Event → ℕ → Follow → Follow
follow_matched near off e now f =
    let reminded = reminded_at e now f.reminded_ms in
    record { line = f.line; segment = near.end; matched = Some near.point; off = off; reminded_ms = reminded }

unfoldable pub course_matched : Nearest → Point → Course → Course
course_matched near p c =
    course_with c.line_len c.unplaced c.held c.join_fixes c.join_end near.along
    (minimum c.reached near.along) (Some p)
