-- The proof of `specs/Theorems.antt`. Assumes nothing.
use Prim.Native.Nat.{ℕ, zero, suc, ◌+◌, ◌-◌, ◌≤◌, ◌<◌}
use mathlib.Core.Path.{◌≡◌, refl, sym, ap, ◌∙◌}
use mathlib.Core.Bool.{Bool, true, false}
use mathlib.Core.List.{List, [], ◌∷◌}
use native.Mathlib.Omega.{arith}
use native.Mathlib.Decide.{dec_le, ℕ_discrete}
use borrow.Author.Tests.{leb-true, leb-false}
use lib.Dec.{leb}
use lib.ListN.{length}
use lib.Ieee.{Float}
use Rattle.crumbs.specs.declared.Crumb.{Crumb}
use Rattle.crumbs.specs.Crumb.{capacity}
use Rattle.crumbs.specs.Choice.{Choice, first, last}
use Rattle.crumbs.proofs.Choices.{choice-all, choice-trans, choice-length}
use Rattle.thin.specs.Crumb.{pass_by, measuring_pass, halving_pass, target, Thinning, passes_from, thinning}
use Rattle.thin.specs.Theorems.{doubled_by, measured, Thins, EveryThinning, EveryHalving}
use Rattle.thin.proofs.Passes.{Within, reach-within, two_on-within, pass-choice, pass-first, pass-ends, pass-both, pass-few}
use Rattle.thin.proofs.Passes.{halving-length}
use Rattle.thin.proofs.Asked.{asked}

pub halves : EveryHalving
halves [] h = absurd (omega arith)
halves (a ∷ l) h = halving-length a l

-- the halving pass leaves at most T
pub halving-room : (room : ℕ) (l : List Crumb) → 3 ≤ room → length l ≤ room → length (halving_pass l) ≤ target room
unfolding halving_pass pass_by
halving-room room [] h k = omega arith
halving-room room (a ∷ l) h k = omega (arith, halving-length a l)

-- ---- what one pass does to a line
record Passes (l m : List Crumb) : Type 0 where
  choice : Choice m l
  begins : first m ≡ first l
  ends : 2 ≤ length l → last m ≡ last l
  both : 2 ≤ length l → 2 ≤ length m
  few : length l ≤ 2 → m ≡ l

passes-by : {step : Crumb → List Crumb → ℕ} → Within step → (l : List Crumb) → Passes l (pass_by step 0 l)
passes-by {step} w l =
    record { choice = pass-choice step 0 l; begins = pass-first step l; ends = pass-ends w l; both = pass-both w l; few = pass-few w l }

measures : (t : Float) (l : List Crumb) → Passes l (measuring_pass t l)
unfolding measuring_pass
measures t l = passes-by (reach-within t) l

halved : (l : List Crumb) → Passes l (halving_pass l)
unfolding halving_pass
halved l = passes-by two_on-within l

-- a pass after a pass
then : {l m n : List Crumb} → Passes l m → Passes m n → Passes l n
then p q =
    record {
      choice = choice-trans q.choice p.choice;
      begins = q.begins ∙ p.begins;
      ends = λ h. q.ends (p.both h) ∙ p.ends h;
      both = λ h. q.both (p.both h);
      few = λ h. q.few (omega (arith, choice-length p.choice)) ∙ p.few h;
    }

-- ---- measuring passes
none_made : (l : List Crumb) → Passes l l
none_made l = record { choice = choice-all l; begins = refl; ends = λ h. refl; both = λ h. h; few = λ h. refl }

measured-line : (n : ℕ) (t : Float) (l : List Crumb) → Passes l (measured n t l)
unfolding measured
measured-line zero t l = none_made l
measured-line (suc n) t l = then (measured-line n t l) (measures (doubled_by n t) (measured n t l))

-- ---- a thinning
module _ (most : ℕ) (t : Float) (l : List Crumb) where
  -- the thinning w from the line after k measuring passes on, n more of which may measure
  record From (k n : ℕ) (w : Thinning) : Type 0 where
    low : suc k ≤ w.passes
    high : w.passes ≤ suc (k + n)
    measuring : w.passes ≤ k + n → (w.left ≡ measured w.passes t l) × (length (measured w.passes t l) ≤ most)
    halving : w.passes ≡ suc (k + n) → w.left ≡ halving_pass (measured (k + n) t l)
    above : (j : ℕ) → suc k ≤ j → j < w.passes → most < length (measured j t l)
    tolerance : w.tolerance ≡ doubled_by (w.passes - 1) t

  -- one more pass measured, and left too many
  from_failing : {k n : ℕ} {w : Thinning} → most < length (measured (suc k) t l) → From (suc k) n w → From k (suc n) w
  from_failing {k} {n} {w} more r =
      let e : k + suc n ≡ suc k + n = omega arith in
      record {
        low = omega (arith, r.low);
        high = omega (arith, r.high);
        measuring = λ h. r.measuring (omega arith);
        halving = λ h. r.halving (omega arith) ∙ ap (λ i. halving_pass (measured i t l)) (sym e);
        above = λ j h b. by j h b (ℕ_discrete j (suc k));
        tolerance = r.tolerance;
      }
    where
      by : (j : ℕ) → suc k ≤ j → j < w.passes → Dec (j ≡ suc k) → most < length (measured j t l)
      by j h b (yes e) = rw e more
      by j h b (no ne) = r.above j (omega arith) b

  from : (k n : ℕ) → From k n (passes_from most (suc k) n (doubled_by k t) (measured k t l))
  unfolding passes_from measured doubled_by
  from k zero =
      let same : k ≡ k + 0 = omega arith in
      let before : k ≡ suc k - 1 = omega arith in
      record {
        low = omega arith;
        high = omega arith;
        measuring = λ h. absurd (omega arith);
        halving = λ h. ap (λ i. halving_pass (measured i t l)) same;
        above = λ j h b. absurd (omega arith);
        tolerance = ap (λ i. doubled_by i t) before;
      }
  from k (suc n) = pick (leb (length (measured (suc k) t l)) most) refl (from (suc k) n)
    where
      pick : (b : Bool) → leb (length (measured (suc k) t l)) most ≡ b
          → From (suc k) n (passes_from most (suc (suc k)) n (doubled_by (suc k) t) (measured (suc k) t l))
          → From k (suc n) (elim b [
            | true ↦ record { left = measured (suc k) t l; tolerance = doubled_by k t; passes = suc k }
            | false ↦ passes_from most (suc (suc k)) n (doubled_by (suc k) t) (measured (suc k) t l)
          ])
      pick true e r =
          let before : k ≡ suc k - 1 = omega arith in
          record {
            low = omega arith;
            high = omega arith;
            measuring = λ h. (refl, leb-true _ _ e);
            halving = λ h. absurd (omega arith);
            above = λ j h b. absurd (omega arith);
            tolerance = ap (λ i. doubled_by i t) before;
          }
      pick false e r = from_failing (leb-false _ _ e) r

module _ (room : ℕ) (least : 3 ≤ room) (t : Float) (l : List Crumb) (fits : length l ≤ room) where
  -- the line that is left
  record Remains (m : List Crumb) : Type 0 where
    few-left : length m ≤ target room
    line : Passes l m

  left-measured : (n : ℕ) → length (measured n t l) ≤ target room → Remains (measured n t l)
  left-measured n few = record { few-left = few; line = measured-line n t l }

  left-halved : Remains (halving_pass (measured 17 t l))
  left-halved =
      let p = measured-line 17 t l in
      record {
        few-left = halving-room room (measured 17 t l) least (omega (arith, choice-length p.choice));
        line = then p (halved (measured 17 t l));
      }

  remains : (w : Thinning) → From (target room) t l 0 17 w → Remains w.left
  remains w r = by (dec_le w.passes 17)
    where
      by : Dec (w.passes ≤ 17) → Remains w.left
      by (yes h) = rw (r.measuring h).0 (left-measured w.passes (r.measuring h).1)
      by (no h) = rw (r.halving (omega (arith, r.high))) left-halved

  -- whatever the tolerance, a NaN too
  pub thins-any : Thins room t l (thinning room t l)
  unfolding thinning measured doubled_by
  thins-any =
      let r = from (target room) t l 0 17 in
      let m = remains _ r in
      let p = m.line in
      record {
        some-pass = r.low;
        few-passes = r.high;
        measures = λ h. (r.measuring h).0;
        halves = r.halving;
        above = r.above;
        last-tolerance = r.tolerance;
        few-left = m.few-left;
        choice = p.choice;
        begins = p.begins;
        ends = p.ends;
        both = p.both;
        few = p.few;
      }

pub thins : EveryThinning
thins size t l h = let a = asked size (length l) t h in thins-any (capacity size) a.least t l a.fits
