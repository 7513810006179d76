-- What every state of a journal is, and what a rule does to it: a run of the things of `Trace`, after which the state is so still. Assumes
-- nothing.
use Prim.Native.Nat.{ℕ, ◌≤◌}
use mathlib.Core.Path.{◌≡◌, sym}
use mathlib.Core.Bool.{Bool, true, false}
use Rattle.trail.specs.Trail.{Track}
use Rattle.trail.proofs.Theorems as trail
use Rattle.trail.proofs.Theorems.{Holding, holding}
use Rattle.state.specs.declared.Line.TheVariants.{Breadcrumb}
use Rattle.state.specs.declared.Follow.{Follow}
use Rattle.state.specs.State.{State}
use Rattle.state.specs.Rule.{Done, done, and_then}
use Rattle.journal.proofs.Trace.{Trace, over, same, after}

-- A segment of the breadcrumb that is followed is one, and so is the length to go back to once a turn-round is counted: each cut leaves a
-- crumb.
pub record Sound (C : ℕ) (t : Track) (f : Follow) : Type 0 where
  pub track : trail.Sound C t
  pub segment : f.line ≡ Breadcrumb → 1 ≤ f.segment
  pub back : 1 ≤ t.retrace → 1 ≤ t.retrace_len

abbrev pub Holds : ℕ → State → Type 0
Holds C s = Sound C s.track s.follow

-- from a state that holds x
pub record Ran (C : ℕ) (x : Holding) {A : Type 0} (d : Done A) : Type 0 where
  pub trace : Trace C x d.notes (holding d.state.track)
  pub sound : Holds C d.state

-- a rule does so from every such state
abbrev pub Good : ℕ → {A : Type 0} → (State → Done A) → Type 0
Good C rule = (s : State) → Holds C s → Ran C (holding s.track) (rule s)

-- a state that holds x still, made where nothing is noted
pub record Quiet (C : ℕ) (x : Holding) (s : State) : Type 0 where
  pub same : holding s.track ≡ x
  pub sound : Holds C s

module _ {C : ℕ} where
  -- nothing is kept, cut or noted
  pub still : {A : Type 0} (a : A) (s : State) → Holds C s → Ran C (holding s.track) (done a s)
  still a s h = record { trace = over; sound = h }

  pub quiet : {A : Type 0} {x : Holding} {s : State} (a : A) → Quiet C x s → Ran C x (done a s)
  quiet a q = record { trace = same (sym q.same); sound = q.sound }

  -- one thing, and then another
  pub then : {A B : Type 0} {x : Holding} {d : Done A} {f : A → State → Done B} → Ran C x d → ((a : A) → Good C (f a))
      → Ran C x (and_then d f)
  then {d} r v =
      let q = v d.answer d.state r.sound in
      record { trace = after r.trace q.trace; sound = q.sound }

  -- one thing or another
  pub either : {A : Type 0} {v : Holding} {x y : Done A} (b : Bool) → Ran C v x → Ran C v y
      → Ran C v {A = A} (elim b [ true ↦ x | false ↦ y ])
  either true u v = u
  either false u v = v

  -- a rule from a state that holds the same
  pub resumed : {A : Type 0} {x y : Holding} {d : Done A} → y ≡ x → Ran C y d → Ran C x d
  resumed e r = rw (← e) r
