-- What each export of a rebuild promises: what the call of its name does, on the rebuild and the state that the slices hold.
use Rattle.std.specs.Prelude.{ℕ, ◌≡◌, ◌≢◌, List, leb, length, Float, Option, Some, None, Result}
use Rattle.state.specs.declared.Homing.{Homing}
use Rattle.calls.specs.Questions.{unless}
use Rattle.refusal.specs.declared.Refusal.{Refusal}
use Rattle.refusal.specs.Refusal.{asked}
use Rattle.rebuild.specs.declared.Rebuild.{Rebuild}
use Rattle.rebuild.specs.Rebuild.{new_rebuild, caught_up}
use Rattle.restart.specs.Promises.{Steps, SettlesBreadcrumb}
use Rattle.stored.specs.Stored.{stored}
use Rattle.stored.specs.Rebuilt.{rebuild_count, stored_rebuild, StoresRebuild}
use Rattle.stored.specs.Fields.{flag_of}
use Rattle.door.specs.Through.{no_state, no_state_with, Leaves}
use Rattle.door.specs.Answers.{AnsweredBy, flagged}

-- ---- a rebuild's words
-- What becomes of the words v when a call gives the rebuild r: taken, they hold that rebuild, and what lies behind it is as it was;
-- refused, they are as they were.
pub record LeavesRebuild (number : ℕ) (r : Rebuild) (v v' : List ℕ) : Type 0 where
  pub taken : number ≡ 0 → StoresRebuild r v v'
  pub refused : number ≢ 0 → v' ≡ v

-- `cittumay_rebuild_new`: words without the room for a rebuild are refused
pub record RebuildNew (recovered : ℕ) (v : List ℕ) (number : ℕ) (v' : List ℕ) : Type 0 where
  pub asked : number ≡ unless (leb rebuild_count (length v)) no_state
  pub leaves : LeavesRebuild number (new_rebuild recovered) v v'

-- `cittumay_rebuild_caught_up`: its flag becomes `is`, and was `was`
pub record RebuildCaughtUp (upper : ℕ) (v : List ℕ) (number was is : ℕ) : Type 0 where
  pub nothing : stored_rebuild v ≡ None → (number ≡ no_state) × (is ≡ was)
  pub rebuild : (r : Rebuild) → stored_rebuild v ≡ Some r → (number ≡ 0) × (is ≡ flag_of (caught_up upper r))

-- ---- a rebuild and a guide
-- the words of a rebuild, and the words and numbers of a guide
pub record Slices : Type 0 where
  pub rebuild : List ℕ
  pub words : List ℕ
  pub numbers : List Float

abbrev pub slices : List ℕ → List ℕ → List Float → Slices
slices v w n = record { rebuild = v; words = w; numbers = n }

-- `does r h`: what a call does on the rebuild r and the state h. Where the words hold no rebuild or the slices no state, the number is
-- `unread`, and `untouched` says that all that is lent is as it was.
pub record OnBoth (unread : ℕ) (untouched : Type 0) (does : Rebuild → Homing → Type 0) (s : Slices) (number : ℕ) : Type 0 where
  pub no_rebuild : stored_rebuild s.rebuild ≡ None → (number ≡ unread) × untouched
  pub no_guide : stored s.words s.numbers ≡ None → (number ≡ unread) × untouched
  pub both : (r : Rebuild) (h : Homing) → stored_rebuild s.rebuild ≡ Some r → stored s.words s.numbers ≡ Some h → does r h

-- `step` on the crumb buffer b, whose flag becomes `is`
pub record StepDone (budget upper : ℕ) (file : List ℕ) (b : List Float) (was : ℕ) (s : Slices) (r : Rebuild) (h : Homing) (number : ℕ)
    (b' : List Float) (is : ℕ) (s' : Slices) : Type 0 where
  pub rebuild : Rebuild
  pub homing : Homing
  pub made : AnsweredBy (λ a. Steps budget upper file r h b rebuild homing a b') flagged number was is
  pub rebuilt : LeavesRebuild number rebuild s.rebuild s'.rebuild
  pub state : Leaves number homing s.words s.numbers s'.words s'.numbers

-- `cittumay_rebuild_step`: question 1 comes before 10
abbrev pub RebuildStep : ℕ → ℕ → List ℕ → List Float → ℕ → Slices → ℕ → List Float → ℕ → Slices → Type 0
RebuildStep budget upper file b was s number b' is s' =
    OnBoth (no_state_with (length b)) ((s' ≡ s) × ((b' ≡ b) × (is ≡ was)))
    (λ r h. StepDone budget upper file b was s r h number b' is s') s number

-- `settle` at the time t
pub record SettleDone (t : Option ℕ) (s : Slices) (r : Rebuild) (h : Homing) (number : ℕ) (s' : Slices) : Type 0 where
  pub rebuild : Rebuild
  pub homing : Homing
  pub answer : Result (Unit {0}) Refusal
  pub promised : SettlesBreadcrumb t r h rebuild homing answer
  pub refusal : number ≡ asked answer
  pub rebuilt : LeavesRebuild number rebuild s.rebuild s'.rebuild
  pub state : Leaves number homing s.words s.numbers s'.words s'.numbers

-- `cittumay_rebuild_settle`
abbrev pub RebuildSettle : Option ℕ → Slices → ℕ → Slices → Type 0
RebuildSettle t s number s' = OnBoth no_state (s' ≡ s) (λ r h. SettleDone t s r h number s') s number
