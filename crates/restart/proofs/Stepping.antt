-- The slots looked at one after the other, and the call that does so. Assumes nothing.
use Prim.Native.Nat.{ℕ, ◌+◌, ◌-◌, ◌≤◌, ◌<◌, min, max}
use mathlib.Core.Path.{◌≡◌, sym, ap, ◌∙◌, subst}
use mathlib.Core.List.{List}
use Rattle.std.specs.Prelude.{Option, Some, None}
use native.Mathlib.Omega.{arith}
use borrow.Author.Tests.{leb-true, le-leb, lt-leb}
use lib.Dec.{leb}
use lib.ListN.{length, get_or}
use lib.Ieee.{Float}
use Rattle.trail.specs.View as trail
use Rattle.state.specs.declared.Homing.{Homing}
use Rattle.matching.proofs.Choosing.{picked, passed-by}
use Rattle.calls.specs.Questions.{unless}
use Rattle.ride_log.specs.declared.Entry.{Entry}
use Rattle.ride_log.specs.Entry.{entry_at, slot, used}
use Rattle.ride_log.specs.Questions.{asks_file, asks_entry, asks_samples}
use Rattle.ride_log.proofs.file_questions.Theorems.{every-accepted}
use Rattle.ride_log.proofs.file_questions.Slots.{At, slot-here, slot-none, slot-asked, record-entry}
use Rattle.rebuild.specs.declared.Walk.{Walk}
use Rattle.rebuild.specs.declared.Rebuild.{Rebuild}
use Rattle.rebuild.specs.Made.{Made, quiet, ◌then◌}
use Rattle.rebuild.specs.Rebuild.{visit, look, past_slot, walk}
use Rattle.rebuild.specs.View.{Makes}
use Rattle.rebuild.proofs.Keeping.{look-keeps}
use Rattle.restart.specs.Walk.{with_slot}
use Rattle.rebuild.proofs.Making.{makes-quiet, one_then}
use Rattle.restart.proofs.Walking.{stop-below, walk-zero, walk-one, walk_more, walk-enough, walk-empty}
use Rattle.restart.proofs.Slots.{met, met-at, met-below, met-all, met-upto}
use native.Mathlib.Nat.{add-zero}
use native.Mathlib.Numerals.{add-one}
use Rattle.questions.proofs.Given.{neither, passed}

-- an entry that no question refuses has at most four samples
count-few : (e : Entry) → asks_entry e ≡ 0 → e.count ≤ 4
unfolding asks_entry
count-few e z = leb-true e.count 4 (passed (leb e.count 4) 4 (neither (unless (leb e.count 4) 5) (asks_samples (used e)) z).0)

-- ---- an entry looked at
pub not-visited : (e : Entry) (r : Rebuild) (h : Homing) (b : List Float) → trail.TrailFit h.trail (length b) → e.ride < r.recovered
    → Makes (look (Some e) r) h b r h b
unfolding look
not-visited e r h b fit before =
    subst (λ (m : Made). Makes m h b r h b) (sym (passed-by (visit e r) (quiet r) _ (lt-leb r.recovered e.ride before)))
    (makes-quiet r h b fit)

pub looked : (e : Entry) (r : Rebuild) {n : Rebuild} {h k : Homing} {entry exit : List Float} → r.recovered ≤ e.ride
    → Makes (visit e r) h entry n k exit
    → Makes (look (Some e) r) h entry n k exit
unfolding look
looked e r {n = n} {h = h} {k = k} {entry = entry} {exit = exit} from m =
    subst (λ (x : Made). Makes x h entry n k exit) (sym (picked (visit e r) (quiet r) _ (le-leb r.recovered e.ride from))) m

-- ---- numbers
the_rest : (from j stop : ℕ) → from + j ≤ stop → stop - from ≡ j + (stop - (from + j))
the_rest from j stop h = omega arith

up_to : (k stop : ℕ) → k ≤ stop → k + (stop - k) ≡ stop
up_to k stop h = omega arith

-- ---- the first j slots from the rebuild's own on are looked at
pub record Going (budget upper stop : ℕ) (f : List ℕ) (r : Rebuild) (h : Homing) (entry : List Float) (j : ℕ) (x : Rebuild) (y : Homing)
    (b : List Float) : Type 0 where
  pub ends : stop ≡ max r.walk.slot (min (r.walk.slot + budget) upper)
  pub made : Makes (walk j upper (slot f) r) h entry x y b
  pub at : x.walk.slot ≡ r.walk.slot + j

module _ {budget upper stop : ℕ} {f : List ℕ} {r : Rebuild} {h : Homing} where
  pub going_start : {b : List Float} → stop ≡ max r.walk.slot (min (r.walk.slot + budget) upper)
      → trail.TrailFit h.trail (length b) → Going budget upper stop f r h b 0 r h b
  going_start {b = b} ends fit =
      record {
        ends = ends;
        made = subst (λ (m : Made). Makes m h b r h b) (sym (walk-zero upper (slot f) r)) (makes-quiet r h b fit);
        at = sym (add-zero r.walk.slot);
      }

  module _ {entry mid : List Float} {j : ℕ} {x : Rebuild} {y : Homing} (g : Going budget upper stop f r h entry j x y mid) where
    -- a walk that goes on from here
    joined : (n : ℕ) {x' : Rebuild} {y' : Homing} {exit : List Float} → Makes (walk n upper (slot f) x) y mid x' y' exit
        → Makes (walk (j + n) upper (slot f) r) h entry x' y' exit
    joined n {x' = x'} {y' = y'} {exit = exit} m =
        subst (λ (z : Made). Makes z h entry x' y' exit) (sym (walk_more upper (slot f) j n r))
        (one_then (walk j upper (slot f) r) (λ next. walk n upper (slot f) next) h entry mid exit x x' y y' g.made m)

    module _ {index : ℕ} (below : j < length (met f r.walk.slot (stop - r.walk.slot)))
        (here : index ≡ get_or (met f r.walk.slot (stop - r.walk.slot)) j index) where
      record-here : At f (r.walk.slot + j) index
      record-here = met-at f r.walk.slot (stop - r.walk.slot) j index below here

      less : r.walk.slot + j < stop
      less = let l = met-below f r.walk.slot (stop - r.walk.slot) j below in omega (arith, l)

      pub going-room : x.walk.slot < stop
      going-room = omega (arith, less, g.at)

      inside : x.walk.slot < upper
      inside =
          let most = stop-below r.walk.slot budget upper stop g.ends (r.walk.slot + j) (omega arith) less in omega (arith, g.at, less, most)

      pub going-count : {e : Entry} → e ≡ entry_at f index → asks_file f ≡ 0 → e.count ≤ 4
      going-count {e = e} is a =
          count-few e (ap (λ (x : Entry). asks_entry x) is ∙ record-entry f index (slot-asked record-here (every-accepted f a)))

      module _ {e : Entry} (is : e ≡ entry_at f index) {x' : Rebuild} {y' : Homing} {exit : List Float}
          (m : Makes (look (Some e) x) y mid x' y' exit) where
        -- the slot that is looked at
        pub going-stays : x'.walk.slot ≡ x.walk.slot
        going-stays = ap (λ (z : Rebuild). z.walk.slot) m.rebuilt ∙ ap (λ (z : Walk). z.slot) (look-keeps (Some e) x).walk

        one : walk 1 upper (slot f) x ≡ (look (Some e) x then λ next. quiet (past_slot next))
        one =
            walk-one upper (slot f) x inside
            ∙ ap (λ (o : Option Entry). look o x then λ next. quiet (past_slot next))
            (ap (λ (k : ℕ). slot f k) g.at ∙ slot-here record-here ∙ ap (λ (z : Entry). Some z) (sym is))

        pub going_on : Going budget upper stop f r h entry (j + 1) (with_slot (x'.walk.slot + 1) x') y' exit
        going_on =
            let n = with_slot (x'.walk.slot + 1) x' in
            let moved : n ≡ past_slot x' = ap (λ (k : ℕ). with_slot k x') (add-one x'.walk.slot) in
            let quietly : Makes (quiet (past_slot x')) y' exit n y' exit =
            subst (λ (z : Rebuild). Makes (quiet z) y' exit n y' exit) moved (makes-quiet n y' exit m.fit) in
            let both = one_then (look (Some e) x) (λ z. quiet (past_slot z)) y mid exit exit x' n y' y' m quietly in
            record {
              ends = g.ends;
              made = joined 1 (subst (λ (z : Made). Makes z y mid n y' exit) (sym one) both);
              at = omega (arith, going-stays, g.at);
            }

    -- the slots behind the chain's end are passed at once
    pub going-end : j ≡ length (met f r.walk.slot (stop - r.walk.slot))
        → Makes (walk budget upper (slot f) r) h entry (with_slot stop x) y mid
    going-end all =
        let n = with_slot stop x in
        let from = r.walk.slot in
        let upto : from + j ≤ stop = let l = met-upto f from (stop - from) j all in omega (arith, l, g.ends) in
        let left = stop - (from + j) in
        let there : x.walk.slot + left ≡ stop = ap (λ (k : ℕ). k + left) g.at ∙ up_to (from + j) stop upto in
        let none : (k : ℕ) → x.walk.slot ≤ k → k < x.walk.slot + left → slot f k ≡ None =
        λ k l m.
        let over = met-all f from (stop - from) j all (omega (arith, l, m, there, g.at)) in
        slot-none f k (omega (arith, over, l, g.at)) in
        let most : 0 < left → x.walk.slot + left ≤ upper =
        λ p.
        let least = stop-below from budget upper stop g.ends (from + j) (omega arith) (omega (arith, p)) in omega (arith, there, least) in
        let empty : walk left upper (slot f) x ≡ quiet n =
        walk-empty upper (slot f) left x most none ∙ ap (λ (k : ℕ). quiet (with_slot k x)) there in
        let whole : walk budget upper (slot f) r ≡ walk (j + left) upper (slot f) r =
        walk-enough upper (slot f) budget stop r g.ends ∙ ap (λ (k : ℕ). walk k upper (slot f) r) (the_rest from j stop upto) in
        subst (λ (z : Made). Makes z h entry n y mid) (sym whole)
        (joined left (subst (λ (z : Made). Makes z y mid n y mid) (sym empty) (makes-quiet n y mid g.made.fit)))
