-- Demand 3 of the program where calls of a rebuild stand among the guide's. Document 01, "Journal": "A call of `Rebuild` counts as the
-- guide's calls it makes, a refused one as none."
use Rattle.std.specs.Prelude.{ℕ, ◌*◌, ◌≤◌, ◌≡◌, Bool, true, false, List, [], ◌∷◌, ◌++◌, eqb, length, Float, Option, Result}
use Rattle.refusal.specs.declared.Refusal.{Refusal}
use Rattle.crumbs.specs.Crumb.{stride}
use Rattle.state.specs.declared.Homing.{Homing}
use Rattle.state.specs.State.{State, state_of}
use Rattle.calls.specs.Line as rule
use Rattle.calls.specs.Questions.{asks_state}
use Rattle.calls.specs.Calls.{Call}
use Rattle.calls.specs.Promises.{Called}
use Rattle.journal.specs.Journal.{journal}
use Rattle.history.specs.History.{Holds}
use Rattle.ride_log.specs.Entry.{slot}
use Rattle.rebuild.specs.declared.Rebuild.{Rebuild}
use Rattle.rebuild.specs.Rebuild.{step, settle}
use Rattle.restart.specs.Promises.{asks_step, Steps, SettlesBreadcrumb}

-- ---- what a call of a rebuild counts as, on a crumb buffer of `size` numbers and in the state s; `new` and `caught_up` make no call of
-- the guide
unfoldable pub step_calls : ℕ → ℕ → ℕ → List ℕ → Rebuild → State → List Call
step_calls size budget upper file x s =
    elim (eqb (asks_step size file s) 0) [ true ↦ (step budget upper (slot file) x).made.calls | false ↦ [] ]

unfoldable pub settle_calls : Option ℕ → Rebuild → State → List Call
settle_calls t x s = elim (eqb (asks_state s) 0) [ true ↦ (settle t x).calls | false ↦ [] ]

-- `RanOn C cs h b`: a new guide on a buffer for C crumbs, whatever that held, came to the state h and the buffer b by calls of its own and
-- of rebuilds, in any order, that count as the calls cs, in this order. Each did what its contract promises, refused or not, whoever wrote
-- the line it was lent. "of the program's state, counts and crumb buffer it knows nothing": what the journal is fed for a call of a rebuild
-- is worked out from C and from the journal's own state after the calls before.
pub data RanOn (C : ℕ) : List Call → Homing → List Float → Type 0 where
  new : {h : Homing} {b : List Float} → length b ≡ stride * C → state_of h b ≡ rule.new → RanOn C [] h b
  called : {cs : List Call} {h r : Homing} {b b' : List Float} (c : Call) → RanOn C cs h b → Called c h b r b' → RanOn C (cs ++ c ∷ []) r b'
  -- `step` and `settle` of any rebuild x
  stepped : {cs : List Call} {h r : Homing} {b b' : List Float} {y : Rebuild} {a : Result Bool Refusal} (budget upper : ℕ) (file : List ℕ)
      (x : Rebuild) → RanOn C cs h b → Steps budget upper file x h b y r a b'
      → RanOn C (cs ++ step_calls (stride * C) budget upper file x (journal C cs).state) r b'
  settled : {cs : List Call} {h r : Homing} {b : List Float} {y : Rebuild} {a : Result (Unit {0}) Refusal} (t : Option ℕ) (x : Rebuild)
      → RanOn C cs h b → SettlesBreadcrumb t x h y r a
      → RanOn C (cs ++ settle_calls t x (journal C cs).state) r b

-- Demand 3 of all these
abbrev pub EveryHistoryWithRebuilds : Type 0
EveryHistoryWithRebuilds = (C : ℕ) → 8 ≤ C → C ≤ 4096 → (cs : List Call) (h : Homing) (b : List Float) → RanOn C cs h b → Holds C cs h b
