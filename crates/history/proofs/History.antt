-- Demand 3 of the program: of every way to come by calls to a state and a crumb buffer. Assumes nothing.
use Prim.Native.Nat.{ℕ, ◌*◌, ◌≤◌}
use mathlib.Core.Path.{◌≡◌, refl, sym, ap, ap₂, ◌∙◌}
use mathlib.Core.List.{List, [], ◌∷◌, ◌++◌, map}
use native.Mathlib.Omega.{arith}
use lib.Ieee.{Float}
use lib.ListN.{length}
use Rattle.std.specs.Prelude.{Result}
use Rattle.refusal.specs.declared.Refusal.{Refusal}
use Rattle.crumbs.specs.Crumb.{stride, capacity, point}
use Rattle.crumbs.proofs.Crumbs.{length-crumbs, front-whole}
use Rattle.trail.specs.View.{track}
use Rattle.state.specs.declared.Homing.{Homing}
use Rattle.state.specs.State.{State, state_of}
use Rattle.calls.specs.Line as rule
use Rattle.calls.specs.Calls.{Call, after_call}
use Rattle.journal.specs.Journal.{run, journal}
use Rattle.journal.proofs.History.{holds}
use Rattle.journal.proofs.Programs.{history-of, run-last}
use Rattle.homing.specs.Promises.{MakesNew}
use Rattle.history.specs.History.{front, held, Holds, Ran, new, called, EveryHistory}

-- the places of the front part are those of the crumbs held
held-crumbs : (h : Homing) (b : List Float) → h.trail.len ≤ capacity (length b) → held h b ≡ map point (state_of h b).track.crumbs
unfolding held front track
held-crumbs h b fits = ap (map point) ((front-whole h.trail.len b fits).held fits)

-- a state and a buffer that are as the journal's after the same calls
module _ (C : ℕ) (least : 8 ≤ C) (most : C ≤ 4096) (cs : List Call) (h : Homing) (b : List Float) where
  few : state_of h b ≡ (journal C cs).state → h.trail.len ≤ C
  unfolding track
  few e =
      let some : length (journal C cs).state.track.crumbs ≤ C = (holds C (omega arith) cs).track.held in
      let counted : h.trail.len ≡ length (journal C cs).state.track.crumbs =
      sym (length-crumbs h.trail.len b) ∙ ap (λ (s : State). length s.track.crumbs) e in
      omega arith

  pub holds_same : length b ≡ stride * C → state_of h b ≡ (journal C cs).state → Holds C cs h b
  holds_same long e =
      let room : h.trail.len ≤ C = few e in
      let within : h.trail.len ≤ capacity (length b) = omega arith in
      record {
        same = e;
        within = within;
        places = held-crumbs h b within ∙ ap (λ (s : State). map point s.track.crumbs) e;
        claim = rw (held-crumbs h b within) (history-of C least most cs (state_of h b) e);
      }

-- the guide that `new` makes begins one
pub made : {C : ℕ} {b : List Float} {h : Homing} {a : Result (Unit {0}) Refusal} → length b ≡ stride * C → MakesNew b h a → Ran C [] h b
made {b = b} size m = new size (m.fresh b)

long : {C : ℕ} {cs : List Call} {h : Homing} {b : List Float} → Ran C cs h b → length b ≡ stride * C
long (new size empty) = size
long (called c ran did) = did.size ∙ long ran

pub none_yet : (C : ℕ) → (journal C []).state ≡ rule.new
unfolding journal run
none_yet C = refl

pub one_more : (C : ℕ) (cs : List Call) (c : Call)
    → (after_call (stride * C) c (journal C cs).state).state ≡ (journal C (cs ++ c ∷ [])).state
unfolding journal
one_more C cs c = sym (run-last (stride * C) c cs rule.new)

as-journal : {C : ℕ} {cs : List Call} {h : Homing} {b : List Float} → Ran C cs h b → state_of h b ≡ (journal C cs).state
as-journal {C} (new size empty) = empty ∙ sym (none_yet C)
as-journal {C} (called {cs} c ran did) =
    did.same ∙ (ap₂ (λ (n : ℕ) (s : State). (after_call n c s).state) (long ran) (as-journal ran) ∙ one_more C cs c)

pub ran-holds : EveryHistory
ran-holds C least most cs h b ran = holds_same C least most cs h b (long ran) (as-journal ran)
