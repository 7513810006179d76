-- The lead behind segments tried one after the other, from an end down, or passed over in one go. Assumes nothing.
use Prim.Native.Nat.{ℕ, zero, suc, ◌+◌, ◌-◌, ◌≤◌, ◌<◌}
use mathlib.Core.Path.{◌≡◌, refl, sym, ap, ◌∙◌, subst}
use mathlib.Core.Bool.{Bool, true, false, ◌||◌, cond, false≢true}
use mathlib.Core.List.{List}
use native.Mathlib.Omega.{arith}
use native.Mathlib.Decide.{ℕ_discrete}
use Rattle.plane.specs.declared.Point.{Point}
use Rattle.crumbs.specs.declared.Crumb.{Crumb}
use Rattle.segments.specs.declared.Stretch.{Stretch}
use Rattle.segments.specs.Square.{square_on}
use Rattle.search.specs.declared.Range.{Range}
use Rattle.search.specs.declared.quick.Lead.{Lead}
use Rattle.search.specs.declared.quick.Passed.{Passed}
use Rattle.search.specs.Square.{reaches, overtakes, takes_lead, leads_down, Passes}
use Rattle.search.specs.Rows.{row_length, NoneReaches}
use Rattle.search.proofs.quick.Leading.{Chases, chases-on}

-- ---- tests: where `any` does not hold, none of the first k segments reaches
pub record Tested (line : List Crumb) (within : Stretch) (end : ℕ) (any : Bool) (k : ℕ) : Type 0 where
  pub upto : k ≤ row_length
  pub each : any ≡ false → (j : ℕ) → j < k → reaches line within (end - j) ≡ false

pub tested-start : {line : List Crumb} {within : Stretch} {end : ℕ} → Tested line within end false 0
tested-start = record { upto = omega arith; each = λ _ j h. absurd (omega arith) }

neither : (a b : Bool) → (a || b) ≡ false → (a ≡ false) × (b ≡ false)
neither true b h = absurd (false≢true (sym h))
neither false b h = (refl, h)

module _ {line : List Crumb} {within : Stretch} {end : ℕ} {any : Bool} {k : ℕ} (t : Tested line within end any k) where
  pub tested-next : {r : Bool} → k < row_length → r ≡ reaches line within (end - k) → Tested line within end (any || r) (k + 1)
  tested-next {r} h R = record { upto = omega arith; each = λ none j under. at (neither any r none) j under (ℕ_discrete j k) }
    where
      at : (any ≡ false) × (r ≡ false) → (j : ℕ) → j < k + 1 → Dec (j ≡ k) → reaches line within (end - j) ≡ false
      at f j under (yes q) = ap (λ i. reaches line within (end - i)) q ∙ (sym R ∙ f.1)
      at f j under (no ne) = t.each f.0 j (omega arith)

  pub tested-end : row_length ≤ k → any ≡ false → NoneReaches line within end
  tested-end h none = record { each = λ j under. t.each none j (omega arith) }

module _ (line : List Crumb) (p : Point) (within : Stretch) where
  abbrev over : ℕ → ℕ → Lead → Lead
  over = leads_down line p within

  -- some segments, then the others
  over-split : (m n k end next : ℕ) (lead : Lead) → m + n ≡ k → end - m ≡ next → over k end lead ≡ over n next (over m end lead)
  unfolding leads_down
  over-split zero n k end next lead e f =
      let a : k ≡ n = omega arith in
      let b : end ≡ next = omega arith in
      ap (λ i. over i end lead) a ∙ ap (λ i. over n i lead) b
  over-split (suc m) n k end next lead e f =
      let a : k ≡ suc (m + n) = omega arith in
      ap (λ i. over i end lead) a ∙ over-split m n (m + n) (end - 1) next (takes_lead line p within end lead) refl (omega arith)

  -- one more
  pub over-next : (k end : ℕ) (lead : Lead) {leading next : Lead} → leading ≡ over k end lead
      → next ≡ takes_lead line p within (end - k) leading → next ≡ over (k + 1) end lead
  unfolding leads_down
  over-next k end lead L N =
      N ∙ (ap (takes_lead line p within (end - k)) L ∙ sym (over-split k 1 (k + 1) end (end - k) lead refl refl))

  pub over-start : (end : ℕ) (lead : Lead) → lead ≡ over 0 end lead
  unfolding leads_down
  over-start end lead = refl

  pub over-end : (k end : ℕ) (lead : Lead) {leading : Lead} → k ≤ row_length → row_length ≤ k → leading ≡ over k end lead
      → leading ≡ over row_length end lead
  over-end k end lead h g L = let e : k ≡ row_length = omega arith in L ∙ ap (λ n. over n end lead) e

  -- ---- none of them reaches
  stays_at : (end : ℕ) (lead : Lead) → reaches line within end ≡ false → takes_lead line p within end lead ≡ lead
  unfolding takes_lead
  stays_at end lead h = ap (λ b. cond b (overtakes end (square_on line p end) lead) lead) h

  stays : (n end : ℕ) (lead : Lead) → ((j : ℕ) → j < n → reaches line within (end - j) ≡ false) → over n end lead ≡ lead
  unfolding leads_down
  stays zero end lead h = refl
  stays (suc n) end lead h =
      let z : end - 0 ≡ end = omega arith in
      ap (over n (end - 1)) (stays_at end lead (subst (λ i. reaches line within i ≡ false) z (h 0 (omega arith))))
      ∙ stays n (end - 1) lead (λ j less. later j (h (j + 1) (omega arith)))
    where
      later : (j : ℕ) → reaches line within (end - (j + 1)) ≡ false → reaches line within (end - 1 - j) ≡ false
      later j g = let e : end - (j + 1) ≡ end - 1 - j = omega arith in subst (λ i. reaches line within i ≡ false) e g

  pub row_stays : {end : ℕ} (lead : Lead) → NoneReaches line within end → lead ≡ over row_length end lead
  row_stays {end} lead none = sym (stays row_length end lead none.each)

  -- ---- one more row of a range
  module _ {ends : Range} {lead leading : Lead} {end : ℕ} (v : Passes line p within ends lead (record { lead = leading; end = end })) where
    pub passes-row : {next : Lead} → ends.from ≤ end → row_length ≤ end - ends.from → next ≡ over row_length end leading
        → Passes line p within ends lead (record { lead = next; end = end - row_length })
    passes-row {next} from row N =
        record {
          upto = omega (arith, v.upto);
          from = λ _. omega arith;
          leads =
              N
              ∙ (ap (over row_length end) v.leads
              ∙ sym (over-split (ends.to - end) row_length (ends.to - (end - row_length)) ends.to end lead (omega (arith, v.upto))
              (omega (arith, v.upto))));
        }

  pub passes-start : {ends : Range} {lead : Lead} → Passes line p within ends lead (record { lead = lead; end = ends.to })
  unfolding leads_down
  passes-start {ends} {lead} =
      let z : ends.to - ends.to ≡ zero = omega arith in
      record { upto = omega arith; from = λ h. absurd (omega arith); leads = sym (ap (λ n. over n ends.to lead) z) }

  -- ---- the rule's best is tracked over all of them
  module _ (ends : Range) (one : 1 ≤ ends.from) where
    chases-over : (n : ℕ) {lead : Lead} {end : ℕ} → Chases line p within ends lead end → (0 < n → ends.from + n ≤ end + 1)
        → Chases line p within ends (over n end lead) (end - n)
    unfolding leads_down
    chases-over zero {lead} {end} v h = let z : end ≡ end - 0 = omega arith in subst (Chases line p within ends lead) z v
    chases-over (suc n) {lead} {end} v h =
        let g = h (omega arith) in
        let z : end - 1 - n ≡ end - suc n = omega arith in
        subst (Chases line p within ends (over (suc n) end lead)) z
        (chases-over n (chases-on line p within ends v one (omega arith) refl) (λ _. omega arith))

    pub chases-passed : {lead : Lead} {passed : Passed} → Chases line p within ends lead ends.to → Passes line p within ends lead passed
        → Chases line p within ends passed.lead passed.end
    chases-passed {lead} {passed} v w =
        let z : ends.to - (ends.to - passed.end) ≡ passed.end = omega (arith, w.upto) in
        subst (λ l. Chases line p within ends l passed.end) (sym w.leads)
        (subst (Chases line p within ends (over (ends.to - passed.end) ends.to lead)) z (chases-over (ends.to - passed.end) v
        (λ h. let f = w.from (omega arith) in omega (arith, w.upto))))
