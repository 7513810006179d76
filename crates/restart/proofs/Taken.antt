-- Demand 1 where calls of a rebuild stand among the guide's. Assumes nothing.
use Prim.Native.Nat.{ℕ, ◌*◌, ◌%◌, ◌≤◌}
use mathlib.Core.Path.{◌≡◌, refl, sym, ap, ◌∙◌, subst}
use mathlib.Core.Bool.{true}
use mathlib.Core.List.{List, []}
use native.Mathlib.Omega.{arith}
use borrow.Author.Tests.{eq-eqb, eqb-true, eqb-false, le-leb}
use lib.Dec.{eqb}
use lib.ListN.{length}
use lib.Ieee.{Float}
use Rattle.crumbs.specs.declared.Crumb.{Crumb}
use Rattle.crumbs.specs.Crumb.{stride, capacity, crumbs}
use Rattle.state.specs.declared.Homing.{Homing}
use Rattle.state.specs.State.{State, state_of}
use Rattle.state.specs.Rule.{Done}
use Rattle.calls.specs.Questions.{question1, asks_state}
use Rattle.calls.specs.Calls.{Call, Ask, Reset, WayBack, Replay, asks_lent, asks, after_call}
use Rattle.taken.specs.Taken.{InRange, Lent, Own, start, called as own-called}
use Rattle.std.specs.Cmp.Derive.{both_true as both}
use Rattle.taken.proofs.Asking.{or_else_none}
use Rattle.taken.proofs.Taken.{taken}
use Rattle.journal.specs.Journal.{run}
use Rattle.std.specs.Prelude.{Result}
use Rattle.refusal.specs.declared.Refusal.{Refusal}
use Rattle.homing.specs.Promises.{MakesNew}
use Rattle.ride_log.specs.Entry.{slot}
use Rattle.ride_log.proofs.file_questions.Chain.{by}
use Rattle.rebuild.specs.Made.{perform}
use Rattle.rebuild.specs.Rebuild.{step}
use Rattle.rebuild.proofs.Theorems.{journal-same}
use Rattle.rebuild.proofs.Counting.{Rebuilding, nothing, reset, replay, none-refused, walk-makes, settle-makes}
use Rattle.restart.specs.Promises.{asks_step}
use Rattle.restart.specs.History.{RanOn}
use Rattle.restart.specs.History as history
use Rattle.restart.specs.Taken.{Rebuilt, new, called, refused, stepped, settled, EveryTakenWithRebuilds, EveryCourseLeft}
use Rattle.restart.proofs.Calling.{step-file}
use Rattle.restart.proofs.History.{slot-globe, long as history-long}

-- the guide that `new` makes begins such a run
pub begun : {C : ℕ} {b : List Float} {h : Homing} {a : Result (Unit {0}) Refusal} → length b ≡ stride * C → MakesNew b h a
    → Rebuilt C h b []
begun {b = b} size m = new size (m.fresh b)

-- each is one of those that demand 3 speaks of
pub rebuilt-ran : {C : ℕ} {h : Homing} {b : List Float} {l : List Crumb} → Rebuilt C h b l → (cs : List Call) × RanOn C cs h b
rebuilt-ran (new size e) = (_, history.new size e)
rebuilt-ran (called c run lent range did) = (_, history.called c (rebuilt-ran run).1 did)
rebuilt-ran (refused c run ne did) = (_, history.called c (rebuilt-ran run).1 did)
rebuilt-ran (stepped budget upper file x run did) = (_, history.stepped budget upper file x (rebuilt-ran run).1 did)
rebuilt-ran (settled t x run did) = (_, history.settled t x (rebuilt-ran run).1 did)

long : {C : ℕ} {h : Homing} {b : List Float} {l : List Crumb} → Rebuilt C h b l → length b ≡ stride * C
long run = history-long (rebuilt-ran run).1

-- the calls of a rebuild are a guide's own
own-run : {size : ℕ} {s : State} {l : List Crumb} {ks : List Call} → Own size s l → Rebuilding ks → Own size (run size ks s).state l
unfolding run
own-run own nothing = own
own-run {size = size} {s = s} own (reset {cs = cs} m) =
    own-run {s = (after_call size Reset s).state} {ks = cs} (own-called own Reset tt tt) m
own-run {size = size} {s = s} own (replay {cs = cs} x now on m) =
    own-run {s = (after_call size (Replay x now) s).state} {ks = cs} (own-called own (Replay x now) tt (on, tt)) m

record Owned (h : Homing) (b : List Float) (l : List Crumb) : Type 0 where
  own : Own (length b) (state_of h b) l

-- a state that is a guide's own, in a buffer as long as b
owned-as : (b : List Float) {r : Homing} {b' : List Float} {l : List Crumb} {s : State}
    → length b' ≡ length b → state_of r b' ≡ s → Own (length b) s l → Owned r b' l
owned-as b {r = r} {b' = b'} {l = l} size same own =
    record { own = subst (λ (n : ℕ). Own n (state_of r b') l) (sym size) (subst (λ (s : State). Own (length b) s l) (sym same) own) }

stayed : {h : Homing} {b : List Float} {l : List Crumb} → Owned h b l → {r : Homing} {b' : List Float} → r ≡ h → b' ≡ b → Owned r b' l
stayed {h = h} {l = l} o {b' = b'} e f = subst (λ (x : Homing). Owned x b' l) (sym e) (subst (λ (y : List Float). Owned h y l) (sym f) o)

module _ (C : ℕ) (least : 8 ≤ C) (most : C ≤ 4096) where
  room : (size : ℕ) → size ≡ stride * C → question1 size ≡ true
  unfolding question1
  room size e =
      let rest : size % stride ≡ 0 = omega (arith, e) in
      let full : capacity size ≡ C = omega (arith, e) in
      both (both (eq-eqb (size % stride) 0 rest) (le-leb 8 (capacity size) (omega (arith, full, least))))
      (le-leb (capacity size) 4096 (omega (arith, full, most)))

  -- the calls of a rebuild performed
  performed : {h : Homing} {b : List Float} {l : List Crumb} → Owned h b l → length b ≡ stride * C → {ks : List Call} → Rebuilding ks
      → {r : Homing} {b' : List Float} → length b' ≡ length b → state_of r b' ≡ (perform (capacity (length b)) ks (state_of h b)).state
      → Owned r b' l
  performed {h = h} {b = b} o size {ks = ks} m same did =
      let n = length b in
      let none = none-refused n (room n size) o.own m in
      owned-as b same (did ∙ ap (λ (d : Done (Unit {0})). d.state) (sym (journal-same n ks (state_of h b) none))) (own-run o.own m)

  owned : {h : Homing} {b : List Float} {l : List Crumb} → Rebuilt C h b l → Owned h b l
  unfolding step
  owned (new {b = b} size e) = owned-as b refl e start
  owned (called {b = b} c run lent range did) = owned-as b did.size did.same (own-called (owned run).own c lent range)
  owned (refused c run ne did) = let stays = did.refused ne in stayed (owned run) stays.0 stays.1
  owned (stepped {h = h} {b = b} budget upper file x run did) =
      by (eqb (asks_step (length b) file (state_of h b)) 0)
      (λ t.
      let z = eqb-true (asks_step (length b) file (state_of h b)) 0 t in
      let makes = walk-makes budget upper (slot file) x (slot-globe file (step-file file h b refl z)) in
      performed (owned run) (long run) makes did.size (did.taken z).same)
      (λ t. let stays = did.refused (eqb-false (asks_step (length b) file (state_of h b)) 0 t) in stayed (owned run) stays.1 stays.2)
  owned (settled {h = h} {b = b} t x run did) =
      by (eqb (asks_state (state_of h b)) 0)
      (λ u.
      let z = eqb-true (asks_state (state_of h b)) 0 u in
      performed (owned run) (long run) (settle-makes t x) refl ((did.taken b z).same (capacity (length b)) b))
      (λ u. stayed (owned run) (did.refused b (eqb-false (asks_state (state_of h b)) 0 u)).1 refl)

-- ---- demand 1
pub never-refused : EveryTakenWithRebuilds
unfolding asks_step asks asks_lent
never-refused C least most h b l run =
    let n = length b in
    let s = state_of h b in
    let guide : (c : Call) → Lent l s c → InRange c → asks n c s ≡ 0 =
    λ c lent range. taken n (room C least most n (long run)) s l (owned C least most run).own c lent range in
    record {
      guide = guide;
      step = λ file a. or_else_none _ _ (guide (Ask WayBack) tt tt) a;
      settle = guide Reset tt tt;
    }

pub course-left : EveryCourseLeft
course-left xs h entry r a exit did b z =
    let p = did.placed b z in
    (did.size, ap (λ (n : ℕ). crumbs n exit) (sym p.count) ∙ p.held)
