-- What each call that changes the guide promises. `Called` says what becomes of the state and the crumb buffer, and that a refusal changes
-- nothing.
use Rattle.std.specs.Prelude.{ℕ, ◌≡◌, Bool, List, length, Float, Option, Result}
use Rattle.refusal.specs.declared.Refusal.{Refusal}
use Rattle.crumbs.specs.Crumb.{capacity}
use Rattle.trail.specs.View.{empty_window}
use Rattle.plane.specs.declared.Fix.{Fix}
use Rattle.state.specs.declared.Event.{Event}
use Rattle.state.specs.declared.Homing.{Homing}
use Rattle.state.specs.State.{state_of}
use Rattle.course.specs.Course.{line_of}
use Rattle.course.specs.View.{Places}
use Rattle.calls.specs.Questions.{question1, unless}
use Rattle.calls.specs.Fix.{observe}
use Rattle.calls.specs.Follow.{set_following}
use Rattle.calls.specs.Line.{new}
use Rattle.calls.specs.Calls as call
use Rattle.calls.specs.Calls.{asks, course_in}
use Rattle.calls.specs.Promises.{answer, says, Called}

-- `new`, on the crumb buffer b: question 1 is put to it. The state is a new guide's whatever the buffer holds, and the window's numbers,
-- which the rules see only where a place waits, are zeros.
pub record MakesNew (b : List Float) (h : Homing) (a : Result (Unit {0}) Refusal) : Type 0 where
  pub answered : says a ≡ answer (unless (question1 (length b)) 1) (tt {0})
  pub fresh : (crumbs : List Float) → state_of h crumbs ≡ new
  pub window : h.window ≡ empty_window

-- `reset`, whatever the crumb buffer holds, which it is not given
pub record DoesReset (h : Homing) (r : Homing) (a : Result (Unit {0}) Refusal) : Type 0 where
  pub answered : (b : List Float) → says a ≡ answer (asks (length b) call.Reset (state_of h b)) (tt {0})
  pub called : (b : List Float) → Called call.Reset h b r b

-- `end_replay`, whatever the crumb buffer holds, which it is not given
pub record EndsReplay (h : Homing) (r : Homing) (a : Result (Unit {0}) Refusal) : Type 0 where
  pub answered : (b : List Float) → says a ≡ answer (asks (length b) call.EndReplay (state_of h b)) (tt {0})
  pub called : (b : List Float) → Called call.EndReplay h b r b

-- `set_course` of the points xs, whatever the crumb buffer holds, which it is not given
pub record SetsCourse (xs : List Fix) (h : Homing) (entry : List Float) (r : Homing) (a : Result (Unit {0}) Refusal) (exit : List Float) :
    Type 0 where
  pub answered : (b : List Float) → says a ≡ answer (asks (length b) (call.SetCourse entry xs) (state_of h b)) (tt {0})
  pub called : (b : List Float) → Called (call.SetCourse entry xs) h b r b
  -- the placed line stands in front of the line buffer, and the numbers behind it are unchanged
  pub placed : (b : List Float) → asks (length b) (call.SetCourse entry xs) (state_of h b) ≡ 0
      → Places (line_of h.frame xs) entry r.course.line_len exit
  pub refused : (b : List Float) → (asks (length b) (call.SetCourse entry xs) (state_of h b) ≡ 0 → ⊥) → exit ≡ entry
  pub size : length exit ≡ length entry

-- `set_auto_follow`
pub record SetsAuto (on : Bool) (h : Homing) (entry : List Float) (r : Homing) (a : Result (Unit {0}) Refusal) (exit : List Float) :
    Type 0 where
  pub answered : says a ≡ answer (asks (length entry) (call.SetAutoFollow on) (state_of h entry)) (tt {0})
  pub called : Called (call.SetAutoFollow on) h entry r exit

-- `observe`, lent the line
pub record Observes (line : List Float) (x : Option Fix) (now : ℕ) (h : Homing) (entry : List Float) (r : Homing) (a : Result Event Refusal)
    (exit : List Float) :
    Type 0 where
  pub answered : says a
      ≡ answer (asks (length entry) (call.Observe line x now) (state_of h entry))
      (observe (capacity (length entry)) (course_in line (state_of h entry)) x now (state_of h entry)).answer
  pub called : Called (call.Observe line x now) h entry r exit

-- `replay`
pub record Replays (x : Fix) (now : ℕ) (h : Homing) (entry : List Float) (r : Homing) (a : Result (Unit {0}) Refusal) (exit : List Float) :
    Type 0 where
  pub answered : says a ≡ answer (asks (length entry) (call.Replay x now) (state_of h entry)) (tt {0})
  pub called : Called (call.Replay x now) h entry r exit

-- `set_following`, lent the line
pub record SetsFollowing (line : List Float) (on : Bool) (now : ℕ) (h : Homing) (entry : List Float) (r : Homing) (a : Result Bool Refusal)
    (exit : List Float) :
    Type 0 where
  pub answered : says a
      ≡ answer (asks (length entry) (call.SetFollowing line on now) (state_of h entry))
      (set_following on (capacity (length entry)) (course_in line (state_of h entry)) now (state_of h entry)).answer
  pub called : Called (call.SetFollowing line on now) h entry r exit
