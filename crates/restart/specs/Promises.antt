-- What each call of a rebuild promises. `new` and `caught_up` are given no state, buffer or file, and are asked nothing: they promise the
-- rules of these names.
use Rattle.std.specs.Prelude.{ℕ, ◌≡◌, ◌≢◌, Bool, List, length, Float, Option, Result}
use Rattle.refusal.specs.declared.Refusal.{Refusal}
use Rattle.state.specs.declared.Homing.{Homing}
use Rattle.state.specs.State.{State, state_of}
use Rattle.calls.specs.Questions.{asks_state, asks_crumbs, ◌or_else◌}
use Rattle.calls.specs.Promises.{answer, says}
use Rattle.ride_log.specs.Entry.{slot}
use Rattle.ride_log.specs.Questions.{asks_file}
use Rattle.rebuild.specs.declared.Rebuild.{Rebuild}
use Rattle.rebuild.specs.Rebuild.{step, settle}
use Rattle.rebuild.specs.View.{Makes, Settles}

-- the questions put to `step`: 1 and 10 about the crumb buffer and the state, then those about the file
unfoldable pub asks_step : ℕ → List ℕ → State → ℕ
asks_step size file s = asks_crumbs size s or_else asks_file file

-- `step`: up to `budget` slots below `upper` of the file are read into the breadcrumb
pub record Steps (budget upper : ℕ) (file : List ℕ) (r : Rebuild) (h : Homing) (entry : List Float) (r' : Rebuild) (n : Homing)
    (a : Result Bool Refusal) (exit : List Float) : Type 0 where
  pub answered : says a ≡ answer (asks_step (length entry) file (state_of h entry)) (step budget upper (slot file) r).answer
  -- `Makes` says what becomes of the rebuild, the state and the crumb buffer, and which numbers are free
  pub taken : asks_step (length entry) file (state_of h entry) ≡ 0
      → Makes (step budget upper (slot file) r).made h entry r' n exit
  -- "changes nothing"
  pub refused : asks_step (length entry) file (state_of h entry) ≢ 0 → (r' ≡ r) × (n ≡ h) × (exit ≡ entry)
  pub size : length exit ≡ length entry

-- `settle` at the time t, whatever the crumb buffer b holds, which it is not given
pub record SettlesBreadcrumb (t : Option ℕ) (r : Rebuild) (h : Homing) (r' : Rebuild) (n : Homing) (a : Result (Unit {0}) Refusal) :
    Type 0 where
  pub answered : (b : List Float) → says a ≡ answer (asks_state (state_of h b)) (tt {0})
  pub taken : (b : List Float) → asks_state (state_of h b) ≡ 0 → Settles (settle t r) h r' n
  pub refused : (b : List Float) → asks_state (state_of h b) ≢ 0 → (r' ≡ r) × (n ≡ h)
