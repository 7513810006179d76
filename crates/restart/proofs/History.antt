-- Demand 3 where calls of a rebuild stand among the guide's, whoever wrote the lines. Assumes nothing.
use Prim.Native.Nat.{ℕ, ◌*◌, ◌≤◌}
use mathlib.Core.Path.{◌≡◌, refl, sym, ap, ap₂, ◌∙◌, subst}
use mathlib.Core.Bool.{Bool}
use mathlib.Core.List.{List, [], ◌∷◌, ◌++◌}
use native.Mathlib.Omega.{arith}
use borrow.Author.Tests.{eqb-true, eqb-false, ltb-true, ltb-false}
use lib.Dec.{leb, ltb, eqb}
use lib.ListN.{length, get_or}
use lib.Ieee.{Float}
use Rattle.crumbs.specs.Crumb.{stride, capacity}
use Rattle.std.specs.Prelude.{Option, Some, None, Result, ℕ}
use Rattle.refusal.specs.declared.Refusal.{Refusal}
use Rattle.plane.specs.declared.Fix.{Fix}
use Rattle.state.specs.declared.Homing.{Homing}
use Rattle.state.specs.State.{State, state_of}
use Rattle.state.specs.Rule.{Done}
use Rattle.calls.specs.Line as rule
use Rattle.calls.specs.Questions.{unless, asks_state, asks_crumbs}
use Rattle.calls.specs.Calls.{Call, Reset, Replay, point_of, asks, asks_place, after_call}
use Rattle.questions.proofs.Given.{fix-given, neither}
use Rattle.taken.specs.Taken.{FixesOnGlobe}
use Rattle.taken.proofs.Refusals.{NoneRefused}
use Rattle.taken.proofs.Tests.{either, one_of}
use Rattle.taken.proofs.Asking.{fix-asked, or_else_none}
use Rattle.journal.specs.Journal.{run, journal}
use Rattle.taken.proofs.asked.Measured.{Measured, turn-measured}
use Rattle.taken.proofs.asked.Asked.{journal-measured, state-asked, replay-turn, reset-turn}
use Rattle.homing.specs.Promises.{MakesNew}
use Rattle.history.specs.History.{Holds, Ran}
use Rattle.history.specs.History as history
use Rattle.history.proofs.History.{holds_same, none_yet, one_more}
use Rattle.ride_log.specs.declared.Sample.{Sample}
use Rattle.ride_log.specs.declared.Entry.{Entry}
use Rattle.ride_log.specs.Entry.{entry_at, chain, slot, used}
use Rattle.ride_log.specs.Questions.{asks_samples, asks_entry, asks_file}
use Rattle.ride_log.proofs.file_questions.Theorems.{every-accepted}
use Rattle.ride_log.proofs.file_questions.Slots.{At, slot-none, slot-here, slot-asked, record-entry}
use Rattle.ride_log.proofs.file_questions.Chain.{by}
use Rattle.std.proofs.lemmas.List.{get_or_default}
use Rattle.rebuild.specs.declared.Stage.{Stage}
use Rattle.rebuild.specs.declared.Stage.TheVariants as stage
use Rattle.rebuild.specs.declared.Rebuild.{Rebuild}
use Rattle.rebuild.specs.Made.{perform}
use Rattle.rebuild.specs.Rebuild.{carries_on, decide, step, settle_from, settle}
use Rattle.rebuild.proofs.Theorems.{journal-same}
use Rattle.rebuild.proofs.Counting.{Rebuilding, nothing, reset, replay, SamplesOnGlobe, SlotOnGlobe, walk-makes}
use Rattle.restart.specs.Promises.{asks_step, Steps, SettlesBreadcrumb}
use Rattle.restart.specs.History.{step_calls, settle_calls, RanOn, new, called, stepped, settled, EveryHistoryWithRebuilds}
use Rattle.restart.proofs.Calling.{step-crumbs, step-file}

-- ---- a file that no question refuses has its places in range
place-globe : (p : Option Fix) → asks_place p ≡ 0 → FixesOnGlobe (point_of p)
unfolding asks_place
place-globe (Some x) e =
    let l = fix-given x e in
    (record { latitude = l.latitude; longitude = l.longitude }, tt)
place-globe None e = tt

samples-globe : (xs : List Sample) → asks_samples xs ≡ 0 → SamplesOnGlobe xs
unfolding asks_samples
samples-globe [] e = tt
samples-globe (x ∷ xs) e = (
  place-globe x.place (neither (asks_place x.place) (asks_samples xs) e).0,
  samples-globe xs (neither (asks_place x.place) (asks_samples xs) e).1,
)

entry-globe : (e : Entry) → asks_entry e ≡ 0 → SamplesOnGlobe (used e)
unfolding asks_entry
entry-globe e z = samples-globe (used e) (neither (unless (leb e.count 4) 5) (asks_samples (used e)) z).1

pub slot-globe : (f : List ℕ) → asks_file f ≡ 0 → (k : ℕ) → SlotOnGlobe (slot f k)
slot-globe f a k =
    let r = get_or (chain f) k 0 in
    by (ltb k (length (chain f)))
    (λ t.
    let there = ltb-true k (length (chain f)) t in
    let at : At f k r = record { there = there; here = get_or_default (chain f) k 0 r there } in
    subst (λ (o : Option Entry). SlotOnGlobe o) (sym (slot-here at))
    (entry-globe (entry_at f r) (record-entry f r (slot-asked at (every-accepted f a)))))
    (λ t. subst (λ (o : Option Entry). SlotOnGlobe o) (sym (slot-none f k (ltb-false k (length (chain f)) t))) tt)

-- ---- none of the calls of a rebuild is refused
module _ (size : ℕ) (least : 3 ≤ capacity size) where
  -- those of `step`, which is asked questions 1 and 10 itself: resets and replays of fixes in range
  none-refused : (s : State) {ks : List Call} → Measured s → asks_crumbs size s ≡ 0 → Rebuilding ks → NoneRefused size s ks
  unfolding asks
  none-refused s m e nothing = tt
  none-refused s m e (reset k) =
      (state-asked size s e, none-refused (after_call size Reset s).state (turn-measured size least Reset s m) (reset-turn size s e) k)
  none-refused s m e (replay x now on k) =
      let after = (after_call size (Replay x now) s).state in (
        or_else_none _ _ e (fix-asked x on),
        none-refused after (turn-measured size least (Replay x now) s m) (replay-turn size x now s m on e) k,
      )

module _ (size : ℕ) (s : State) (e : asks_state s ≡ 0) where
  -- and the reset of `settle`, which is asked question 10
  decide-asked : (last first : Option ℕ) (r : Rebuild) → NoneRefused size s (decide last first r).calls
  unfolding decide asks
  decide-asked last first r = one_of (λ ks. NoneRefused size s ks) (carries_on last first) (λ _. tt) (λ _. (e, tt))

  settle-from-asked : (was : Stage) (t : Option ℕ) (r : Rebuild) → NoneRefused size s (settle_from was t r).calls
  unfolding settle_from
  settle-from-asked (stage.Pending last) t r = decide-asked last t r
  settle-from-asked stage.Decided t r = tt

  settle-asked : (t : Option ℕ) (r : Rebuild) → NoneRefused size s (settle t r).calls
  unfolding settle
  settle-asked t r = settle-from-asked r.stage t r

-- ---- the calls one after the other
run-both : (size : ℕ) (xs ys : List Call) (s : State) → (run size (xs ++ ys) s).state ≡ (run size ys (run size xs s).state).state
unfolding run
run-both size [] ys s = refl
run-both size (c ∷ xs) ys s = run-both size xs ys (after_call size c s).state

journal-on : (C : ℕ) (cs ks : List Call) → (run (stride * C) ks (journal C cs).state).state ≡ (journal C (cs ++ ks)).state
unfolding journal
journal-on C cs ks = sym (run-both (stride * C) cs ks rule.new)

-- ---- runs
-- the guide that `new` makes begins one
pub made : {C : ℕ} {b : List Float} {h : Homing} {a : Result (Unit {0}) Refusal} → length b ≡ stride * C → MakesNew b h a → RanOn C [] h b
made {b = b} size m = new size (m.fresh b)

-- one without a call of a rebuild
pub ran-only : {C : ℕ} {cs : List Call} {h : Homing} {b : List Float} → Ran C cs h b → RanOn C cs h b
ran-only (history.new size e) = new size e
ran-only (history.called c run did) = called c (ran-only run) did

pub long : {C : ℕ} {cs : List Call} {h : Homing} {b : List Float} → RanOn C cs h b → length b ≡ stride * C
long (new size e) = size
long (called c run did) = did.size ∙ long run
long (stepped budget upper file x run did) = did.size ∙ long run
long (settled t x run did) = long run

-- ---- a call of a rebuild counts as the guide's calls it makes
module _ (C : ℕ) (least : 3 ≤ C) (cs : List Call) (h : Homing) (b : List Float)
    (size : length b ≡ stride * C) (same : state_of h b ≡ (journal C cs).state) where
  room : 3 ≤ capacity (length b)
  room = omega (arith, size)

  measured : Measured (state_of h b)
  measured = subst (λ (s : State). Measured s) (sym same) (journal-measured C least cs)

  counted : (ks : List Call) (r : Homing) (b' : List Float) → NoneRefused (length b) (state_of h b) ks
      → state_of r b' ≡ (perform (capacity (length b)) ks (state_of h b)).state → state_of r b' ≡ (journal C (cs ++ ks)).state
  counted ks r b' none did =
      did
      ∙ ap (λ (d : Done (Unit {0})). d.state) (sym (journal-same (length b) ks (state_of h b) none))
      ∙ ap₂ (λ (n : ℕ) (s : State). (run n ks s).state) size same
      ∙ journal-on C cs ks

  -- a refused one as none
  uncounted : (r : Homing) (b' : List Float) → r ≡ h → b' ≡ b → state_of r b' ≡ (journal C (cs ++ [])).state
  unfolding perform
  uncounted r b' e f = counted [] r b' tt (ap₂ (λ (x : Homing) (y : List Float). state_of x y) e f)

  step_counts : (budget upper : ℕ) (file : List ℕ) (x : Rebuild) {y : Rebuild} {r : Homing} {a : Result Bool Refusal} {b' : List Float}
      → Steps budget upper file x h b y r a b'
      → state_of r b' ≡ (journal C (cs ++ step_calls (length b) budget upper file x (state_of h b))).state
  unfolding step_calls step
  step_counts budget upper file x {r = r} {b' = b'} did =
      either (λ (ks : List Call). state_of r b' ≡ (journal C (cs ++ ks)).state) (eqb (asks_step (length b) file (state_of h b)) 0)
      (λ t.
      let z = eqb-true (asks_step (length b) file (state_of h b)) 0 t in
      let makes = walk-makes budget upper (slot file) x (slot-globe file (step-file file h b refl z)) in
      counted _ r b' (none-refused (length b) room (state_of h b) measured (step-crumbs file h b refl z) makes)
      (did.taken z).same)
      (λ t. let stays = did.refused (eqb-false (asks_step (length b) file (state_of h b)) 0 t) in
      uncounted r b' stays.1 stays.2)

  settle-counts : (t : Option ℕ) (x : Rebuild) {y : Rebuild} {r : Homing} {a : Result (Unit {0}) Refusal} → SettlesBreadcrumb t x h y r a
      → state_of r b ≡ (journal C (cs ++ settle_calls t x (state_of h b))).state
  unfolding settle_calls
  settle-counts t x {r = r} did =
      either (λ (ks : List Call). state_of r b ≡ (journal C (cs ++ ks)).state) (eqb (asks_state (state_of h b)) 0)
      (λ u.
      let z = eqb-true (asks_state (state_of h b)) 0 u in
      counted _ r b (settle-asked (length b) (state_of h b) z t x) ((did.taken b z).same (capacity (length b)) b))
      (λ u. uncounted r b (did.refused b (eqb-false (asks_state (state_of h b)) 0 u)).1 refl)

-- ---- demand 3
module _ (C : ℕ) (least : 8 ≤ C) where
  as-journal : {cs : List Call} {h : Homing} {b : List Float} → RanOn C cs h b → state_of h b ≡ (journal C cs).state
  as-journal (new size e) = e ∙ sym (none_yet C)
  as-journal (called {cs = cs} c run did) =
      did.same ∙ ap₂ (λ (n : ℕ) (s : State). (after_call n c s).state) (long run) (as-journal run) ∙ one_more C cs c
  as-journal (stepped {cs = cs} {h = h} {b = b} budget upper file x run did) =
      step_counts C (omega arith) cs h b (long run) (as-journal run) budget upper file x did
      ∙ ap₂ (λ (n : ℕ) (s : State). (journal C (cs ++ step_calls n budget upper file x s)).state) (long run) (as-journal run)
  as-journal (settled {cs = cs} {h = h} {b = b} t x run did) =
      settle-counts C (omega arith) cs h b (long run) (as-journal run) t x did
      ∙ ap (λ (s : State). (journal C (cs ++ settle_calls t x s)).state) (as-journal run)

pub ran-on-holds : EveryHistoryWithRebuilds
ran-on-holds C least most cs h b run = holds_same C least most cs h b (long run) (as-journal C least run)
