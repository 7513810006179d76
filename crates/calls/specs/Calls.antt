-- The guide's calls as data, the questions each is asked, and what each does. Document 01, "Journal": "Its list holds `Homing`'s calls
-- named above except `new`, in any order"; "its arguments, to which the lent line belongs, whoever wrote it".
use Rattle.std.specs.Prelude.{ℕ, Bool, true, false, List, [], ◌∷◌, eqb, length, Float, Option, Some, None}
use Rattle.crumbs.specs.declared.Crumb.{Crumb}
use Rattle.crumbs.specs.Crumb.{capacity, crumbs}
use Rattle.plane.specs.declared.Fix.{Fix}
use Rattle.state.specs.State.{State}
use Rattle.state.specs.Rule.{Done, done}
use Rattle.calls.specs.Fix.{observe, replay, end_replay}
use Rattle.calls.specs.Follow.{set_following, set_auto_follow}
use Rattle.calls.specs.Line.{reset, set_course}
use Rattle.calls.specs.Questions.{asks_state, asks_crumbs, asks_line, asks_both, asks_fix, asks_fixes, ◌or_else◌}

-- the buffers that a call is lent beside the state: a line is read, or the course of these points is written to it
pub data Loan : Type 0 where
  no_buffer crumb_buffer : Loan
  line_buffer both_buffers : List Float → Loan
  line_for_course : List Float → List Fix → Loan

-- the calls that only answer, by what they are lent
pub data Query : Loan → Type 0 where
  Len Following FollowingCourse CourseAhead Heading RouteHome Guide : Query no_buffer
  Crumbs WayBack : Query crumb_buffer
  Course : (b : List Float) → Query (line_buffer b)

pub data Call : Type 0 where
  Ask : {loan : Loan} → Query loan → Call
  Reset EndReplay : Call
  SetCourse : List Float → List Fix → Call
  SetAutoFollow : Bool → Call
  Observe : List Float → Option Fix → ℕ → Call
  Replay : Fix → ℕ → Call
  SetFollowing : List Float → Bool → ℕ → Call

-- ---- what a call is given
pub record Arguments : Type 0 where
  pub loan : Loan
  pub points : List Fix
  pub clock : ℕ

abbrev pub point_of : Option Fix → List Fix
point_of (Some x) = x ∷ []
point_of None = []

abbrev pub arguments : Call → Arguments
arguments (Ask {loan = loan} q) = record { loan = loan; points = []; clock = 0 }
arguments Reset = record { loan = no_buffer; points = []; clock = 0 }
arguments EndReplay = record { loan = no_buffer; points = []; clock = 0 }
arguments (SetCourse b xs) = record { loan = line_for_course b xs; points = xs; clock = 0 }
arguments (SetAutoFollow on) = record { loan = crumb_buffer; points = []; clock = 0 }
arguments (Observe b x now) = record { loan = both_buffers b; points = point_of x; clock = now }
arguments (Replay x now) = record { loan = crumb_buffer; points = x ∷ []; clock = now }
arguments (SetFollowing b on now) = record { loan = both_buffers b; points = []; clock = now }

-- ---- the questions
-- a place that may be missing
unfoldable pub asks_place : Option Fix → ℕ
asks_place (Some x) = asks_fix x
asks_place None = 0

-- about the state and what is lent
unfoldable pub asks_lent : ℕ → Loan → State → ℕ
asks_lent size no_buffer s = asks_state s
asks_lent size crumb_buffer s = asks_crumbs size s
asks_lent size (line_buffer b) s = asks_line b 0 s
asks_lent size (both_buffers b) s = asks_both size b s
asks_lent size (line_for_course b xs) s = asks_line b (length xs) s

-- the number of the first question that says no, 0 where none does; the crumb buffer has `size` numbers
unfoldable pub asks : ℕ → Call → State → ℕ
asks size (Ask {loan = loan} q) s = asks_lent size loan s
asks size Reset s = asks_state s
asks size EndReplay s = asks_state s
asks size (SetCourse b xs) s = asks_line b (length xs) s or_else asks_fixes xs
asks size (SetAutoFollow on) s = asks_crumbs size s
asks size (Observe b x now) s = asks_both size b s or_else asks_place x
asks size (Replay x now) s = asks_crumbs size s or_else asks_fix x
asks size (SetFollowing b on now) s = asks_both size b s

-- ---- what is done
-- a rule's state and notes, without its answer
abbrev pub silent : {A : Type 0} → Done A → Done (Unit {0})
silent d = record { answer = tt; state = d.state; notes = d.notes }

-- the placed course in a lent line
abbrev pub course_in : List Float → State → List Crumb
course_in b s = crumbs s.course.line_len b

-- what a call that is not refused does; C is how many crumbs there is room for
unfoldable pub performs : ℕ → Call → State → Done (Unit {0})
performs C (Ask q) s = done tt s
performs C Reset s = reset s
performs C EndReplay s = end_replay s
performs C (SetCourse b xs) s = set_course xs s
performs C (SetAutoFollow on) s = set_auto_follow on C s
performs C (Observe b x now) s = silent (observe C (course_in b s) x now s)
performs C (Replay x now) s = replay C x now s
performs C (SetFollowing b on now) s = silent (set_following on C (course_in b s) now s)

-- "A call refused by a question notes nothing", and changes nothing
unfoldable pub after_call : ℕ → Call → State → Done (Unit {0})
after_call size c s = elim (eqb (asks size c s) 0) [ true ↦ performs (capacity size) c s | false ↦ done tt s ]
