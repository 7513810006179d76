-- For the functions inside: what performing calls does to a state that is given.
use Rattle.std.specs.Prelude.{◌≡◌, List, length, Float}
use Rattle.state.specs.declared.Homing.{Homing}
use Rattle.state.specs.State.{state_of}
use Rattle.calls.specs.Calls.{Call}
use Rattle.journal.specs.Journal.{run}

-- The calls cs, one after the other, take the state h and its crumb buffer to the state r and its crumb buffer.
pub record Performs (cs : List Call) (h : Homing) (entry : List Float) (r : Homing) (exit : List Float) : Type 0 where
  pub same : state_of r exit ≡ (run (length entry) cs (state_of h entry)).state
  pub size : length exit ≡ length entry
