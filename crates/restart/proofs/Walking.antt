-- The walk in parts: some slots and then the rest, the slots behind the chain's end at once, and no more than there are below upper.
-- Assumes nothing.
use mathlib.Core.Path.{◌≡◌, refl, sym, ap, ◌∙◌}
use Prim.Native.Nat.{ℕ, zero, suc, ◌+◌, ◌-◌, ◌≤◌, ◌<◌, min, max}
use native.Mathlib.Omega.{arith}
use native.Mathlib.Nat.{zero-add, suc-add, add-zero}
use mathlib.Core.Bool.{Bool, true, false}
use mathlib.Core.List.{List, ◌++◌, append_assoc, append-nil}
use Rattle.std.specs.Prelude.{Option, None}
use borrow.Author.Tests.{le-leb, lt-leb, leb-true, leb-false}
use lib.Dec.{leb}
use Rattle.calls.specs.Calls.{Call}
use Rattle.matching.proofs.Choosing.{picked, passed-by}
use Rattle.ride_log.specs.declared.Entry.{Entry}
use Rattle.ride_log.proofs.file_questions.Chain.{by}
use Rattle.rebuild.specs.declared.Rebuild.{Rebuild}
use Rattle.rebuild.specs.Made.{Made, making, quiet, ◌then◌}
use Rattle.rebuild.specs.Rebuild.{caught_up, look, past_slot, walk}
use Rattle.rebuild.proofs.Keeping.{one_of}
use Rattle.rebuild.proofs.Theorems.{walk-slot}
use Rattle.restart.specs.Walk.{with_slot}

-- three things one after the other, the last two taken together or the first two
then-then : (m : Made) (f g : Rebuild → Made) → (m then λ r. f r then g) ≡ ((m then f) then g)
then-then m f g =
    let a = f m.rebuild in
    let b = g a.rebuild in
    ap (λ (calls : List Call). making calls b.rebuild) (sym (append_assoc m.calls a.calls b.calls))

-- one thing, and then nothing
then-quiet : (m n : Made) → n ≡ quiet m.rebuild → (m then λ _. n) ≡ m
then-quiet m n e =
    ap (λ (x : Made). record { rebuild = x.rebuild; calls = m.calls ++ x.calls }) e
    ∙ ap (λ (calls : List Call). making calls m.rebuild) (append-nil m.calls)

-- ---- numbers
module _ (slot budget upper stop : ℕ) (e : stop ≡ max slot (min (slot + budget) upper)) where
  pub stop-below : (k : ℕ) → slot ≤ k → k < stop → stop ≤ upper
  stop-below k h l = omega arith

  all-used : slot < upper → slot + budget ≤ upper → budget ≡ stop - slot
  all-used h l = omega arith

  all_seen : slot < upper → upper < slot + budget → stop ≡ upper
  all_seen h l = omega arith

part-used : (slot budget upper : ℕ) → slot < upper → upper < slot + budget → budget ≡ (upper - slot) + (slot + budget - upper)
part-used slot budget upper h l = omega arith

far-enough : (slot upper : ℕ) → slot < upper → min (slot + (upper - slot)) upper ≡ upper
far-enough slot upper h = omega arith

module _ (upper : ℕ) (slots : ℕ → Option Entry) where
  -- a slot looked at, and then what follows
  abbrev seen : Rebuild → (Rebuild → Made) → Made
  seen r rest = look (slots r.walk.slot) r then λ next. quiet (past_slot next) then λ on. rest on

  caught : (r : Rebuild) → upper ≤ r.walk.slot → caught_up upper r ≡ true
  unfolding caught_up
  caught r h = le-leb upper r.walk.slot h

  is-caught : (r : Rebuild) → caught_up upper r ≡ true → upper ≤ r.walk.slot
  unfolding caught_up
  is-caught r e = leb-true upper r.walk.slot e

  not-caught : (r : Rebuild) → r.walk.slot < upper → caught_up upper r ≡ false
  unfolding caught_up
  not-caught r h = lt-leb upper r.walk.slot h

  -- nothing is left
  pub walk_none : (n : ℕ) (r : Rebuild) → upper ≤ r.walk.slot → walk n upper slots r ≡ quiet r
  unfolding walk
  walk_none zero r h = refl
  walk_none (suc n) r h = picked (quiet r) (seen r λ on. walk n upper slots on) _ (caught r h)

  pub walk-zero : (r : Rebuild) → walk 0 upper slots r ≡ quiet r
  unfolding walk
  walk-zero r = refl

  -- one slot, and the rest
  walk-next : (n : ℕ) (r : Rebuild) → r.walk.slot < upper → walk (suc n) upper slots r ≡ seen r λ on. walk n upper slots on
  unfolding walk
  walk-next n r h = passed-by (quiet r) (seen r λ on. walk n upper slots on) _ (not-caught r h)

  -- one slot alone
  pub walk-one : (r : Rebuild) → r.walk.slot < upper
      → walk 1 upper slots r ≡ (look (slots r.walk.slot) r then λ next. quiet (past_slot next))
  unfolding walk
  walk-one r h = walk-next 0 r h

  -- some slots, and then more
  pub walk_more : (m n : ℕ) (r : Rebuild) → walk (m + n) upper slots r ≡ (walk m upper slots r then λ next. walk n upper slots next)
  unfolding walk
  walk_more zero n r = ap (λ (k : ℕ). walk k upper slots r) (zero-add n)
  walk_more (suc m) n r =
      ap (λ (k : ℕ). walk k upper slots r) (suc-add m n)
      ∙ split (caught_up upper r) refl (walk_more m n (past_slot (look (slots r.walk.slot) r).rebuild))
    where
      split : (b : Bool) → caught_up upper r ≡ b
          → walk (m + n) upper slots (past_slot (look (slots r.walk.slot) r).rebuild)
          ≡ (walk m upper slots (past_slot (look (slots r.walk.slot) r).rebuild) then λ next. walk n upper slots next)
          → one_of b (quiet r) (seen r λ on. walk (m + n) upper slots on)
          ≡ (one_of b (quiet r) (seen r λ on. walk m upper slots on) then λ next. walk n upper slots next)
      split true e rest = sym (walk_none n r (is-caught r e))
      split false e rest =
          let x = look (slots r.walk.slot) r in
          ap (λ (y : Made). record { rebuild = y.rebuild; calls = x.calls ++ y.calls }) rest
          ∙ then-then x (λ next. walk m upper slots (past_slot next)) (λ next. walk n upper slots next)

  -- the budget beyond upper is not used
  module _ (budget stop : ℕ) (r : Rebuild) (e : stop ≡ max r.walk.slot (min (r.walk.slot + budget) upper)) where
    abbrev from : ℕ
    from = r.walk.slot

    enough : from < upper → upper < from + budget → walk budget upper slots r ≡ walk (stop - from) upper slots r
    enough h l =
        let n = upper - from in
        let m = from + budget - upper in
        let some = walk n upper slots r in
        let at : some.rebuild.walk.slot ≡ upper = walk-slot n upper slots r (omega (arith, h)) ∙ far-enough from upper h in
        let over : walk m upper slots some.rebuild ≡ quiet some.rebuild = walk_none m some.rebuild (omega (arith, at)) in
        ap (λ (k : ℕ). walk k upper slots r) (part-used from budget upper h l)
        ∙ walk_more n m r
        ∙ then-quiet some (walk m upper slots some.rebuild) over
        ∙ ap (λ (k : ℕ). walk (k - from) upper slots r) (sym (all_seen from budget upper stop e h l))

    pub walk-enough : walk budget upper slots r ≡ walk (stop - from) upper slots r
    walk-enough =
        by (leb upper from)
        (λ t. let h = leb-true upper from t in walk_none budget r h ∙ sym (walk_none (stop - from) r h))
        (λ t.
        let h = leb-false upper from t in
        by (leb (from + budget) upper)
        (λ u. ap (λ (k : ℕ). walk k upper slots r) (all-used from budget upper stop e h (leb-true (from + budget) upper u)))
        (λ u. enough h (leb-false (from + budget) upper u)))

  -- slots without a record
  pub walk-empty : (n : ℕ) (r : Rebuild) → (0 < n → r.walk.slot + n ≤ upper)
      → ((k : ℕ) → r.walk.slot ≤ k → k < r.walk.slot + n → slots k ≡ None)
      → walk n upper slots r ≡ quiet (with_slot (r.walk.slot + n) r)
  unfolding look
  walk-empty zero r h e = walk-zero r ∙ ap (λ (k : ℕ). quiet (with_slot k r)) (sym (add-zero r.walk.slot))
  walk-empty (suc n) r h e =
      let most = h (omega arith) in
      let here : r.walk.slot < upper = omega (arith, most) in
      let on : suc r.walk.slot + n ≡ r.walk.slot + suc n = omega arith in
      walk-next n r here
      ∙ ap (λ (o : Option Entry). look o r then λ next. quiet (past_slot next) then λ on. walk n upper slots on)
      (e r.walk.slot (omega arith) (omega arith))
      ∙ walk-empty n (past_slot r) (λ _. omega (arith, most, on)) (λ k l m. e k (omega (arith, l)) (omega (arith, m, on)))
      ∙ ap (λ (k : ℕ). quiet (with_slot k r)) on
