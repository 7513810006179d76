-- What each export promises that changes the guide: the promise of the call of its name, on the state that the slices hold.
use Rattle.std.specs.Prelude.{ℕ, ◌≡◌, List, length, Float, Option, Result}
use Rattle.refusal.specs.declared.Refusal.{Refusal}
use Rattle.refusal.specs.Refusal.{asked}
use Rattle.state.specs.declared.Event.{Event}
use Rattle.state.specs.declared.Event.TheVariants as event
use Rattle.state.specs.declared.Homing.{Homing}
use Rattle.plane.specs.declared.Fix.{Fix}
use Rattle.calls.specs.Questions.{question1, unless, ◌or_else◌}
use Rattle.homing.specs.Promises.{MakesNew, DoesReset, EndsReplay, SetsCourse, SetsAuto, Observes, Replays, SetsFollowing}
use Rattle.stored.specs.Stored.{room_for}
use Rattle.door.specs.Through.{is_set, no_state, no_state_with, Leaves, ChangesStored}
use Rattle.door.specs.Answers.{AnsweredBy, flagged}

-- ---- what a call gives, as numbers
abbrev pub number_of_event : Event → ℕ
number_of_event event.Nothing = 0
number_of_event event.Following = 1
number_of_event event.OffTrack = 2
number_of_event event.OnTrack = 3
number_of_event event.Dropped = 4
number_of_event event.Arrived = 5
number_of_event event.CourseEnd = 6

-- a call that keeps `promise` gives the state r, and was refused by the question with this number
pub record Gives (promise : Homing → Result (Unit {0}) Refusal → Type 0) (r : Homing) (number : ℕ) : Type 0 where
  pub answer : Result (Unit {0}) Refusal
  pub promised : promise r answer
  pub refusal : number ≡ asked answer

-- the same of a call whose answer is written where `was` stood
abbrev pub Tells : {A : Type 0} → (Homing → Result A Refusal → Type 0) → (A → ℕ → ℕ) → ℕ → ℕ → Homing → ℕ → Type 0
Tells promise write was is r number = AnsweredBy (promise r) write number was is

-- ---- the exports
-- `cittumay_new`, on the crumb buffer b: question 1, then whether the slices have the room
pub record New (b : List Float) (w : List ℕ) (n : List Float) (number : ℕ) (w' : List ℕ) (n' : List Float) : Type 0 where
  pub asked : number ≡ (unless (question1 (length b)) 1 or_else unless (room_for w n) no_state)
  pub made : Homing
  pub answer : Result (Unit {0}) Refusal
  pub promised : MakesNew b made answer
  pub leaves : Leaves number made w n w' n'

-- `cittumay_reset`
abbrev pub Reset : List ℕ → List Float → ℕ → List ℕ → List Float → Type 0
Reset = ChangesStored no_state (λ h. Gives (DoesReset h)) (Unit {0})

-- `cittumay_end_replay`
abbrev pub EndReplay : List ℕ → List Float → ℕ → List ℕ → List Float → Type 0
EndReplay = ChangesStored no_state (λ h. Gives (EndsReplay h)) (Unit {0})

-- `cittumay_set_course` of the points xs, lent the line
abbrev pub SetCourse : List Fix → List Float → List Float → List ℕ → List Float → ℕ → List ℕ → List Float → Type 0
SetCourse xs line line' = ChangesStored no_state (λ h. Gives (λ r a. SetsCourse xs h line r a line')) (line' ≡ line)

-- `cittumay_set_auto_follow`, lent the crumb buffer b
abbrev pub SetAutoFollow : ℕ → List Float → List Float → List ℕ → List Float → ℕ → List ℕ → List Float → Type 0
SetAutoFollow on b b' = ChangesStored (no_state_with (length b)) (λ h. Gives (λ r a. SetsAuto (is_set on) h b r a b')) (b' ≡ b)

-- `cittumay_observe` and `cittumay_observe_missing`: the fix x, lent the crumb buffer b and the line
abbrev pub Observe : List Float → Option Fix → ℕ → List Float → ℕ → List Float → ℕ → List ℕ → List Float → ℕ → List ℕ → List Float → Type 0
Observe line x now b event b' event' =
    ChangesStored (no_state_with (length b))
    (λ h. Tells (λ r a. Observes line x now h b r a b') (λ e _. number_of_event e) event event')
    ((b' ≡ b) × (event' ≡ event))

-- `cittumay_replay` of the fix x, lent the crumb buffer b
abbrev pub Replay : Fix → ℕ → List Float → List Float → List ℕ → List Float → ℕ → List ℕ → List Float → Type 0
Replay x now b b' = ChangesStored (no_state_with (length b)) (λ h. Gives (λ r a. Replays x now h b r a b')) (b' ≡ b)

-- `cittumay_set_following`, lent the crumb buffer b and the line
abbrev pub SetFollowing : List Float → ℕ → ℕ → List Float → ℕ → List Float → ℕ → List ℕ → List Float → ℕ → List ℕ → List Float → Type 0
SetFollowing line on now b done b' done' =
    ChangesStored (no_state_with (length b))
    (λ h. Tells (λ r a. SetsFollowing line (is_set on) now h b r a b') flagged done done')
    ((b' ≡ b) × (done' ≡ done))
