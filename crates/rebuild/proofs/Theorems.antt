-- What a rebuild does to the guide is what its calls do, and a journal that is fed those calls notes the same; and how far a walk comes.
-- Assumes nothing.
use mathlib.Core.Path.{◌≡◌, refl, sym, ap, ◌∙◌}
use Prim.Native.Nat.{ℕ, zero, suc, ◌+◌, ◌≤◌, ◌<◌, min}
use native.Mathlib.Omega.{arith}
use mathlib.Core.Bool.{Bool, true, false, cond}
use mathlib.Core.List.{List, [], ◌∷◌, ◌++◌, append-nil}
use borrow.Author.Tests.{eq-eqb, leb-true, leb-false, lt-leb, le-leb}
use Rattle.crumbs.specs.Crumb.{capacity}
use Rattle.state.specs.State.{State}
use Rattle.state.specs.Rule.{Done, done, and_then}
use Rattle.update.proofs.Choosing.{picked}
use Rattle.std.specs.Prelude.{Option, ℕ}
use Rattle.plane.specs.declared.Fix.{Fix}
use Rattle.calls.specs.Fix.{replay}
use Rattle.calls.specs.Line.{reset}
use Rattle.calls.specs.Calls.{Call, Reset, asks, performs, after_call}
use Rattle.taken.proofs.Refusals.{NoneRefused}
use Rattle.journal.specs.Journal.{run}
use Rattle.ride_log.specs.declared.Entry.{Entry}
use Rattle.rebuild.specs.declared.Stage.TheVariants as stage
use Rattle.rebuild.specs.declared.Walk.{Walk}
use Rattle.rebuild.specs.declared.Rebuild.{Rebuild}
use Rattle.rebuild.specs.Made.{Made, making, quiet, ◌then◌, perform, effect}
use Rattle.rebuild.specs.Rebuild.{new_rebuild, with_stage, carries_on, decide, replays, caught_up, look, past_slot, walk}
use Rattle.rebuild.proofs.Performing.{performed-both}
use Rattle.rebuild.proofs.Keeping.{one_of, look-keeps}

-- ---- the rules in the guide's own writer
-- one rule and then another
pub effect-then : (m : Made) (next : Rebuild → Made) (C : ℕ) (s : State)
    → effect (m then next) C s ≡ and_then (effect m C s) λ r after. effect (next r) C after
effect-then m next C s =
    let n = next m.rebuild in
    ap (λ (d : Done (Unit {0})). record { answer = n.rebuild; state = d.state; notes = d.notes })
    (performed-both C m.calls n.calls s)

-- the guide is reset where the later ride does not carry on
pub effect-decide : (last first : Option ℕ) (r : Rebuild) (C : ℕ) (s : State)
    → effect (decide last first r) C s
    ≡ elim (carries_on last first) [
      | true ↦ done (with_stage stage.Decided r) s
      | false ↦ and_then (reset s) λ _ after. done (with_stage stage.Decided r) after
    ]
unfolding decide perform performs
effect-decide last first r C s = by (carries_on last first)
  where
    by : (b : Bool)
        → effect (making (cond b [] (Reset ∷ [])) (with_stage stage.Decided r)) C s
        ≡ elim b [
          | true ↦ done (with_stage stage.Decided r) s
          | false ↦ and_then (reset s) λ _ after. done (with_stage stage.Decided r) after
        ]
    by true = refl
    by false = refl

-- a fix is replayed at the clock
pub effect-replays : (x : Fix) (r : Rebuild) (C : ℕ) (s : State)
    → effect (replays x r) C s ≡ and_then (replay C x r.clock_ms s) λ _ after. done r after
unfolding replays perform performs
effect-replays x r C s = refl

-- ---- the journal
one-turn : (size : ℕ) (c : Call) (s : State) → asks size c s ≡ 0 → after_call size c s ≡ performs (capacity size) c s
unfolding after_call
one-turn size c s e = picked (performs (capacity size) c s) (done tt s) _ (eq-eqb _ _ e)

-- the journal that is fed the calls, none of which is refused, has the same state and the same notes
pub journal-same : (size : ℕ) (calls : List Call) (s : State) → NoneRefused size s calls
    → run size calls s ≡ perform (capacity size) calls s
unfolding run perform
journal-same size [] s t = refl
journal-same size (c ∷ calls) s t =
    let first = after_call size c s in
    ap (λ (d : Done (Unit {0})). record { answer = d.answer; state = d.state; notes = first.notes ++ d.notes })
    (journal-same size calls first.state t.1)
    ∙ ap (λ (d : Done (Unit {0})). and_then d λ _ after. perform (capacity size) calls after) (one-turn size c s t.0)

-- so a rule of the rebuild has the effect of running its calls
pub effect-run : (m : Made) (size : ℕ) (s : State) → NoneRefused size s m.calls
    → effect m (capacity size) s ≡ and_then (run size m.calls s) λ _ after. done m.rebuild after
effect-run m size s t =
    ap (λ (d : Done (Unit {0})). record { answer = m.rebuild; state = d.state; notes = d.notes })
    (sym (journal-same size m.calls s t))
    ∙ ap (λ notes. record { answer = m.rebuild; state = (run size m.calls s).state; notes = notes })
    (sym (append-nil (run size m.calls s).notes))

-- ---- how far a walk comes
past : (upper : ℕ) (r : Rebuild) → caught_up upper r ≡ true → upper ≤ r.walk.slot
unfolding caught_up
past upper r e = leb-true upper r.walk.slot e

below : (upper : ℕ) (r : Rebuild) → caught_up upper r ≡ false → r.walk.slot < upper
unfolding caught_up
below upper r e = leb-false upper r.walk.slot e

-- a slot is looked at
abbrev seen : (ℕ → Option Entry) → Rebuild → Rebuild
seen slots r = past_slot (look (slots r.walk.slot) r).rebuild

next-slot : (slots : ℕ → Option Entry) (r : Rebuild) → (seen slots r).walk.slot ≡ suc r.walk.slot
next-slot slots r = ap (λ (w : Walk). suc w.slot) (look-keeps (slots r.walk.slot) r).walk

-- "each costing 1 of the budget": as many slots as the budget has, and none from upper on
pub walk-slot : (budget upper : ℕ) (slots : ℕ → Option Entry) (r : Rebuild) → r.walk.slot ≤ upper
    → (walk budget upper slots r).rebuild.walk.slot ≡ min (r.walk.slot + budget) upper
unfolding walk
walk-slot zero upper slots r few = omega arith
walk-slot (suc budget) upper slots r few = by (caught_up upper r) refl (walk-slot budget upper slots (seen slots r))
  where
    by : (b : Bool) → caught_up upper r ≡ b → ((seen slots r).walk.slot ≤ upper
        → (walk budget upper slots (seen slots r)).rebuild.walk.slot ≡ min ((seen slots r).walk.slot + budget) upper)
        → (one_of b (quiet r)
        (look (slots r.walk.slot) r then λ next. quiet (past_slot next) then λ on. walk budget upper slots on)).rebuild.walk.slot
        ≡ min (r.walk.slot + suc budget) upper
    by true e rest = omega (arith, past upper r e, few)
    by false e rest =
        let next = next-slot slots r in
        let on : (seen slots r).walk.slot ≤ upper = omega (arith, below upper r e, next) in
        rest on ∙ omega (arith, next)

-- no rebuild is caught up before its first slot, and every one is once the budget reached upper
pub not-caught-up : (recovered upper : ℕ) → 0 < upper → caught_up upper (new_rebuild recovered) ≡ false
unfolding caught_up new_rebuild
not-caught-up recovered upper some = lt-leb upper 0 some

pub caught-up : (budget upper : ℕ) (slots : ℕ → Option Entry) (recovered : ℕ) → upper ≤ budget
    → caught_up upper (walk budget upper slots (new_rebuild recovered)).rebuild ≡ true
unfolding caught_up new_rebuild
caught-up budget upper slots recovered enough =
    let first : (new_rebuild recovered).walk.slot ≤ upper = omega arith in
    let far = walk-slot budget upper slots (new_rebuild recovered) first in
    le-leb upper _ (omega (arith, far))
