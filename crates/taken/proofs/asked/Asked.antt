-- A state that passes questions 1 and 10 passes them after `replay` of a fix in range and after `reset`, whatever lines were lent before.
-- Assumes nothing.
use Prim.Native.Nat.{ℕ, ◌*◌, ◌≤◌}
use native.Mathlib.Omega.{arith}
use mathlib.Core.Path.{◌≡◌, subst, sym}
use mathlib.Core.Bool.{true, ◌&&◌, and-eq-true_iff}
use mathlib.Core.List.{List, [], ◌∷◌}
use lib.Dec.{eqb}
use Rattle.crumbs.specs.Crumb.{stride, capacity}
use Rattle.state.specs.State.{State}
use Rattle.state.specs.Rule.{Done}
use Rattle.plane.specs.declared.Fix.{Fix}
use Rattle.calls.specs.Questions.{question1, state_fits, held_fits, unless, asks_state, asks_crumbs}
use Rattle.calls.specs.Fix.{replay}
use Rattle.calls.specs.Line.{new, reset}
use Rattle.calls.specs.Calls.{Call, Reset, Replay, asks, performs, after_call}
use Rattle.taken.specs.Taken.{FixOnGlobe}
use Rattle.taken.proofs.Tests.{either, says-yes}
use Rattle.std.specs.Cmp.Derive.{both_true}
use Rattle.taken.proofs.Asking.{room_of, or_else_none}
use Rattle.journal.specs.Journal.{run, journal}
use Rattle.taken.proofs.asked.State.{Passing, parts-given, state-passes, held-passes, replay-passing, reset-passing}
use Rattle.taken.proofs.asked.Measured.{Measured, new-measured, turn-measured}
use Rattle.questions.proofs.Given.{passed, neither}

-- ---- the questions
-- ---- one call
-- the state alone
pub reset-asked-state : (s : State) → asks_state s ≡ 0 → asks_state (reset s).state ≡ 0
unfolding asks_state
reset-asked-state s e = says-yes 10 (state-passes {C = 0} (reset s).state (reset-passing 0 s (passed (state_fits s) 9 e)))

module _ (size : ℕ) where
  record Given (s : State) : Type 0 where
    one : question1 size ≡ true
    state : state_fits s ≡ true
    held : held_fits (capacity size) s ≡ true

  given : (s : State) → asks_crumbs size s ≡ 0 → Given s
  unfolding asks_crumbs
  given s e =
      let ten = state_fits s && held_fits (capacity size) s in
      let n = neither (unless (question1 size) 1) (unless ten 10) e in
      let k = passed ten 9 n.1 in
      record {
        one = passed (question1 size) 0 n.0;
        state = ((and-eq-true_iff (state_fits s) (held_fits (capacity size) s)).0 k).0;
        held = ((and-eq-true_iff (state_fits s) (held_fits (capacity size) s)).0 k).1;
      }

  passes : (s : State) → question1 size ≡ true → Passing (capacity size) s → asks_crumbs size s ≡ 0
  unfolding asks_crumbs
  passes s one k = or_else_none _ _ (says-yes 1 one) (says-yes 10 (both_true (state-passes s k) (held-passes s k)))

  -- the state and a crumb buffer
  pub replay-asked : (x : Fix) (now : ℕ) (s : State) → Measured s → FixOnGlobe x → asks_crumbs size s ≡ 0
      → asks_crumbs size (replay (capacity size) x now s).state ≡ 0
  replay-asked x now s m g e =
      let k = given s e in
      passes _ k.one (replay-passing (capacity size) (room_of size k.one).least x now s m.0 g
      (parts-given s k.state (capacity size) m.1 k.held))

  pub reset-asked : (s : State) → asks_crumbs size s ≡ 0 → asks_crumbs size (reset s).state ≡ 0
  reset-asked s e = let k = given s e in passes _ k.one (reset-passing (capacity size) s k.state)

  -- the state alone is asked less
  pub state-asked : (s : State) → asks_crumbs size s ≡ 0 → asks_state s ≡ 0
  unfolding asks_state
  state-asked s e = says-yes 10 (given s e).state

  -- as the journal performs them
  pub replay-turn : (x : Fix) (now : ℕ) (s : State) → Measured s → FixOnGlobe x → asks_crumbs size s ≡ 0
      → asks_crumbs size (after_call size (Replay x now) s).state ≡ 0
  unfolding after_call performs
  replay-turn x now s m g e =
      either (λ (d : Done (Unit {0})). asks_crumbs size d.state ≡ 0) (eqb (asks size (Replay x now) s) 0)
      (λ _. replay-asked x now s m g e) (λ _. e)

  pub reset-turn : (s : State) → asks_crumbs size s ≡ 0 → asks_crumbs size (after_call size Reset s).state ≡ 0
  unfolding after_call performs
  reset-turn s e =
      either (λ (d : Done (Unit {0})). asks_crumbs size d.state ≡ 0) (eqb (asks size Reset s) 0) (λ _. reset-asked s e) (λ _. e)

-- ---- every list of calls
run-measured : (size : ℕ) → 3 ≤ capacity size → (calls : List Call) (s : State) → Measured s → Measured (run size calls s).state
unfolding run
run-measured size least [] s m = m
run-measured size least (c ∷ calls) s m = run-measured size least calls (after_call size c s).state (turn-measured size least c s m)

pub journal-measured : (C : ℕ) → 3 ≤ C → (calls : List Call) → Measured (journal C calls).state
unfolding journal
journal-measured C least calls =
    let e : capacity (stride * C) ≡ C = omega arith in
    run-measured (stride * C) (subst (λ (n : ℕ). 3 ≤ n) (sym e) least) calls new new-measured
