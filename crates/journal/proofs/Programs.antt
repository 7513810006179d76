-- What ties a program to the journal: a state that is the journal's after the same calls has the claim. Assumes nothing.
use Prim.Native.Nat.{ℕ, ◌*◌, ◌%◌, ◌≤◌}
use mathlib.Core.Path.{◌≡◌, refl}
use mathlib.Core.Bool.{true}
use mathlib.Core.List.{List, [], ◌∷◌, ◌++◌}
use native.Mathlib.Omega.{arith}
use borrow.Author.Tests.{eqb-true}
use Rattle.crumbs.specs.Crumb.{stride, whole, capacity}
use Rattle.state.specs.State.{State}
use Rattle.calls.specs.Line.{new}
use Rattle.calls.specs.Calls.{Call, after_call}
use Rattle.journal.specs.Claim.{Claim}
use Rattle.journal.specs.Journal.{run, journal, held_in}
use Rattle.journal.proofs.History.{history}

module _ (C : ℕ) (least : 8 ≤ C) (most : C ≤ 4096) (calls : List Call) where
  pub history-of : (s : State) → s ≡ (journal C calls).state → Claim C (journal C calls).notes (held_in s)
  history-of s e = rw e (history C least most calls)

-- ---- the calls one after the other
module _ (size : ℕ) where
  -- the first, and then the rest
  pub run-first : (c : Call) (calls : List Call) (s : State)
      → (run size (c ∷ calls) s).state ≡ (run size calls (after_call size c s).state).state
  unfolding run
  run-first c calls s = refl

  -- some, and then one more
  pub run-last : (c : Call) (calls : List Call) (s : State)
      → (run size (calls ++ c ∷ []) s).state ≡ (after_call size c (run size calls s).state).state
  unfolding run
  run-last c [] s = refl
  run-last c (d ∷ calls) s = run-last c calls (after_call size d s).state

  -- a buffer of a whole number of crumbs has the size that its capacity gives
  whole-size : whole size ≡ true → stride * capacity size ≡ size
  whole-size h = omega (arith, eqb-true (size % stride) 0 h)

  -- the journal of its capacity is the run on it
  pub run-journal : whole size ≡ true → (calls : List Call) → run size calls new ≡ journal (capacity size) calls
  unfolding journal
  run-journal h calls = rw (whole-size h)
