-- What a rule of the guide gives: its answer, the state after it, and the notes of what it did, in the order in which it did it.
use Rattle.std.specs.Prelude.{List, [], ◌++◌}
use Rattle.trail.specs.Notes.{Note}
use Rattle.state.specs.State.{State}

pub record Done (A : Type 0) : Type 0 where
  pub answer : A
  pub state : State
  pub notes : List Note

-- an answer and a state, with nothing noted
abbrev pub done : {A : Type 0} → A → State → Done A
done a s = record { answer = a; state = s; notes = [] }

-- one thing, and then another that goes by its answer and its state
abbrev pub and_then : {A B : Type 0} → Done A → (A → State → Done B) → Done B
and_then d f = let e = f d.answer d.state in record { answer = e.answer; state = e.state; notes = d.notes ++ e.notes }
