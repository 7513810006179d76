-- Demand 1 of the program: the states, buffers and placed lines that a guide's own calls and those of rebuilds make, and that none of these
-- calls is refused there. Document 01, "Crumb": "every state and buffer made by a guide's own calls".
use Rattle.std.specs.Prelude.{ℕ, ◌*◌, ◌≤◌, ◌≡◌, ◌≢◌, Bool, List, [], length, Float, Option, Result}
use Rattle.refusal.specs.declared.Refusal.{Refusal}
use Rattle.crumbs.specs.declared.Crumb.{Crumb}
use Rattle.crumbs.specs.Crumb.{stride}
use Rattle.state.specs.declared.Homing.{Homing}
use Rattle.state.specs.State.{state_of}
use Rattle.plane.specs.declared.Fix.{Fix}
use Rattle.calls.specs.Line as rule
use Rattle.calls.specs.Questions.{asks_state}
use Rattle.calls.specs.Calls.{line_for_course, Call, SetCourse, asks}
use Rattle.calls.specs.Promises.{Called}
use Rattle.taken.specs.Taken.{InRange, Lent, line_after, BufferAfter}
use Rattle.homing.specs.Promises.{SetsCourse}
use Rattle.ride_log.specs.Questions.{asks_file}
use Rattle.rebuild.specs.declared.Rebuild.{Rebuild}
use Rattle.restart.specs.Promises.{asks_step, Steps, SettlesBreadcrumb}

-- `Rebuilt C h b l`: a new guide on a buffer for C crumbs, whatever that held, came to the state h and the buffer b by calls of its own and
-- of rebuilds, in any order, and its `set_course` has left the line l. Each did what its contract promises.
pub data Rebuilt (C : ℕ) : Homing → List Float → List Crumb → Type 0 where
  new : {h : Homing} {b : List Float} → length b ≡ stride * C → state_of h b ≡ rule.new → Rebuilt C h b []
  -- a call of the guide that is lent a buffer with the placed line in front, and whose places are in range
  called : {h r : Homing} {b b' : List Float} {l : List Crumb} (c : Call) → Rebuilt C h b l → Lent l (state_of h b) c → InRange c
      → Called c h b r b' → Rebuilt C r b' (line_after l (state_of h b) c)
  -- one that is refused, whatever it is given
  refused : {h r : Homing} {b b' : List Float} {l : List Crumb} (c : Call) → Rebuilt C h b l → asks (length b) c (state_of h b) ≢ 0
      → Called c h b r b' → Rebuilt C r b' l
  -- `step` and `settle`, refused or not, of any rebuild x
  stepped : {h r : Homing} {b b' : List Float} {l : List Crumb} {y : Rebuild} {a : Result Bool Refusal} (budget upper : ℕ) (file : List ℕ)
      (x : Rebuild) → Rebuilt C h b l → Steps budget upper file x h b y r a b' → Rebuilt C r b' l
  settled : {h r : Homing} {b : List Float} {l : List Crumb} {y : Rebuild} {a : Result (Unit {0}) Refusal} (t : Option ℕ) (x : Rebuild)
      → Rebuilt C h b l → SettlesBreadcrumb t x h y r a → Rebuilt C r b l

-- the next call is taken
pub record NextTaken (h : Homing) (b : List Float) (l : List Crumb) : Type 0 where
  pub guide : (c : Call) → Lent l (state_of h b) c → InRange c → asks (length b) c (state_of h b) ≡ 0
  -- on a file that no question refuses
  pub step : (file : List ℕ) → asks_file file ≡ 0 → asks_step (length b) file (state_of h b) ≡ 0
  pub settle : asks_state (state_of h b) ≡ 0

-- Demand 1: whatever was called before
abbrev pub EveryTakenWithRebuilds : Type 0
EveryTakenWithRebuilds =
    (C : ℕ) → 8 ≤ C → C ≤ 4096 → (h : Homing) (b : List Float) (l : List Crumb) → Rebuilt C h b l → NextTaken h b l

-- `set_course` leaves the buffer it was lent so that it may be lent to the next call
abbrev pub EveryCourseLeft : Type 0
EveryCourseLeft =
    (xs : List Fix) (h : Homing) (entry : List Float) (r : Homing) (a : Result (Unit {0}) Refusal) (exit : List Float)
    → SetsCourse xs h entry r a exit
    → (b : List Float) → asks (length b) (SetCourse entry xs) (state_of h b) ≡ 0
    → BufferAfter (state_of h b) (line_for_course entry xs) entry exit
