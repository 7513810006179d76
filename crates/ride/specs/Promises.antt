-- What performing a list of calls promises.
use Rattle.std.specs.Prelude.{◌≡◌, true, false, List, length, Float, Result}
use Rattle.refusal.specs.declared.Refusal.{Refusal}
use Rattle.crumbs.specs.Crumb.{capacity}
use Rattle.state.specs.declared.Homing.{Homing}
use Rattle.state.specs.State.{state_of}
use Rattle.calls.specs.Line.{new}
use Rattle.calls.specs.Calls.{Call}
use Rattle.calls.specs.Questions.{question1, unless}
use Rattle.calls.specs.Promises.{answer, says}
use Rattle.history.specs.History.{Holds}

-- A new guide is made on a crumb buffer, and performs the calls cs. Where question 1 says no, none is performed and nothing changed. What
-- the working line holds after calls that were performed is free; its length stays.
pub record Rides (cs : List Call) (entry line : List Float) (r : Homing) (a : Result (Unit {0}) Refusal) (exit line' : List Float) :
    Type 0 where
  pub answered : says a ≡ answer (unless (question1 (length entry)) 1) (tt {0})
  pub holds : question1 (length entry) ≡ true → Holds (capacity (length entry)) cs r exit
  pub refused : question1 (length entry) ≡ false → ((b : List Float) → state_of r b ≡ new) × (exit ≡ entry) × (line' ≡ line)
  pub size : (length exit ≡ length entry) × (length line' ≡ length line)
