-- The states and placed lines that a guide's own calls make, and that such a guide refuses none of them. Document 01, "Crumb": "every state
-- and buffer made by a guide's own calls"; "Questions put to a call"; "For those who test": "a call that always refuses (demand 1)".
use Rattle.std.specs.Prelude.{ℕ, ◌≤◌, ◌≡◌, ◌≢◌, true, List, [], ◌∷◌, length, take, Float}
use Rattle.plane.specs.Globe.{OnGlobe}
use Rattle.crumbs.specs.declared.Crumb.{Crumb}
use Rattle.crumbs.specs.Crumb.{capacity, crumbs}
use Rattle.state.specs.State.{State}
use Rattle.plane.specs.declared.Fix.{Fix}
use Rattle.course.specs.Course.{line_of}
use Rattle.calls.specs.Questions.{question1, question4}
use Rattle.calls.specs.Line.{new}
use Rattle.calls.specs.Calls.{Loan, no_buffer, crumb_buffer, line_buffer, both_buffers, line_for_course, Call, arguments, asks, course_in}
use Rattle.calls.specs.Calls.{after_call}

-- "latitude within ±900,000,000", "longitude within ±1,800,000,000"
abbrev pub FixOnGlobe : Fix → Type 0
FixOnGlobe x = OnGlobe x.lat x.lon

abbrev pub FixesOnGlobe : List Fix → Type 0
FixesOnGlobe [] = Unit {0}
FixesOnGlobe (x ∷ xs) = FixOnGlobe x × FixesOnGlobe xs

-- every place that a call is given is in range
abbrev pub InRange : Call → Type 0
InRange c = FixesOnGlobe (arguments c).points

-- ---- the line that a call is lent. l is what `set_course` left in front of the buffer it was lent last, and no other call writes to one.
-- what of l is placed: nothing after a reset
abbrev pub placed_of : List Crumb → State → List Crumb
placed_of l s = take s.course.line_len l

-- Any buffer b may be lent, another at each call, that passes question 4 with n points and has in front what is placed.
pub record Lendable (l : List Crumb) (s : State) (n : ℕ) (b : List Float) : Type 0 where
  pub passes : question4 (length b) n ≡ true
  pub room : s.course.line_len ≤ capacity (length b)
  pub placed : course_in b s ≡ placed_of l s

abbrev pub LendsLine : List Crumb → State → Loan → Type 0
LendsLine l s no_buffer = Unit {0}
LendsLine l s crumb_buffer = Unit {0}
LendsLine l s (line_buffer b) = Lendable l s 0 b
LendsLine l s (both_buffers b) = Lendable l s 0 b
LendsLine l s (line_for_course b xs) = Lendable l s (length xs) b

abbrev pub Lent : List Crumb → State → Call → Type 0
Lent l s c = LendsLine l s (arguments c).loan

-- what is left in front of the line after a call that was taken
abbrev pub line_left : List Crumb → State → Loan → List Crumb
line_left l s no_buffer = l
line_left l s crumb_buffer = l
line_left l s (line_buffer b) = l
line_left l s (both_buffers b) = l
line_left l s (line_for_course b xs) = line_of s.frame xs

abbrev pub line_after : List Crumb → State → Call → List Crumb
line_after l s c = line_left l s (arguments c).loan

-- ---- `Own size s l`: a guide on a crumb buffer of `size` numbers, made by `new` and called any number of times, may be in the state s,
-- and its `set_course` has left the line l
pub data Own (size : ℕ) : State → List Crumb → Type 0 where
  start : Own size new []
  called : {s : State} {l : List Crumb} → Own size s l → (c : Call) → Lent l s c → InRange c
      → Own size (after_call size c s).state (line_after l s c)
  -- a call that is refused, whatever it is given
  refused : {s : State} {l : List Crumb} → Own size s l → (c : Call) → asks size c s ≢ 0 → Own size (after_call size c s).state l

-- Demand 1 over the rules: whatever was called before, the next call is taken
abbrev pub EveryTaken : Type 0
EveryTaken =
    (size : ℕ) → question1 size ≡ true → (s : State) (l : List Crumb) → Own size s l
    → (c : Call) → Lent l s c → InRange c → asks size c s ≡ 0

-- ---- Among those are the guides that are always lent the same buffer.
-- the buffer b as a call leaves it: `set_course` puts its line in front of the one it is lent, p
abbrev pub BufferAfter : State → Loan → List Float → List Float → Type 0
BufferAfter s no_buffer b after = after ≡ b
BufferAfter s crumb_buffer b after = after ≡ b
BufferAfter s (line_buffer p) b after = after ≡ b
BufferAfter s (both_buffers p) b after = after ≡ b
BufferAfter s (line_for_course p xs) b after =
    (length after ≡ length p) × (crumbs (length (line_of s.frame xs)) after ≡ line_of s.frame xs)

-- any buffer that passes question 4 may be lent to a new guide, and one that may be lent may be lent again as the call leaves it
abbrev pub AnyLineAtFirst : Type 0
AnyLineAtFirst = (b : List Float) → question4 (length b) 0 ≡ true → Lendable [] new 0 b

abbrev pub EveryLineAgain : Type 0
EveryLineAgain =
    (size : ℕ) → question1 size ≡ true → (s : State) (l : List Crumb) → Own size s l
    → (c : Call) → Lent l s c → InRange c → (b after : List Float) → Lendable l s 0 b → BufferAfter s (arguments c).loan b after
    → Lendable (line_after l s c) (after_call size c s).state 0 after
