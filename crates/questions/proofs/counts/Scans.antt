-- Places and crumbs that are looked at one after another: those passed and those to come are all. Assumes nothing.
use Prim.Native.Nat.{ℕ, zero, suc, ◌+◌, ◌≤◌, ◌<◌}
use mathlib.Core.Path.{◌≡◌, refl, sym, ap, ap₂, ◌∙◌, subst}
use mathlib.Core.Bool.{Bool, true, ◌&&◌, and-true, and_assoc}
use mathlib.Core.List.{List, [], ◌∷◌, ◌++◌}
use native.Mathlib.Numerals.{add-one}
use native.Mathlib.Omega.{arith}
use lib.ListN.{length, drop, drop_of_length-le}
use lib.Ieee.{Float}
use Rattle.plane.specs.declared.Point.{Point}
use Rattle.crumbs.specs.declared.Crumb.{Crumb}
use Rattle.crumbs.specs.Crumb.{crumb_at, crumbs}
use Rattle.crumbs.specs.Bounds.{Leading}
use Rattle.crumbs.proofs.Crumbs.{length-crumbs, drop-crumbs}
use Rattle.trail.specs.View.{waiting_at, places}
use Rattle.trail.proofs.Window.{places-on}
use Rattle.calls.specs.Questions.{place_fits, places_fit, crumb_fits, crumbs_fit}
use Rattle.questions.specs.Sure.{least_sure, most_sure}
use Rattle.questions.proofs.limits.Sure.{sure-fits}

-- ---- the window's places
-- the first i of n places fit or not
pub record Waiting (n : ℕ) (w : List Float) (ok : Bool) (i : ℕ) : Type 0 where
  pub within : i ≤ n
  pub passed : ok ≡ places_fit (places i w)

pub waiting-start : (n : ℕ) (w : List Float) → Waiting n w true 0
unfolding places_fit places
waiting-start n w = record { within = omega arith; passed = refl }

places_fit-on : (l : List Point) (p : Point) → places_fit (l ++ p ∷ []) ≡ (places_fit l && place_fits p)
unfolding places_fit
places_fit-on [] p = and-true (place_fits p)
places_fit-on (q ∷ l) p = ap (λ x. place_fits q && x) (places_fit-on l p) ∙ sym (and_assoc (place_fits q) (places_fit l) (place_fits p))

pub waiting-next : {n : ℕ} {w : List Float} {ok : Bool} {i : ℕ} {x : Bool} {p : Point} → Waiting n w ok i → i < n → p ≡ waiting_at w i
    → x ≡ place_fits p
    → Waiting n w (ok && x) (i + 1)
waiting-next {n} {w} {ok} {i} {x} {p} before h at fits =
    record {
      within = omega arith;
      passed =
          ap (λ y. y && x) before.passed
          ∙ ap (λ y. places_fit (places i w) && y) (fits ∙ ap place_fits at)
          ∙ sym (ap places_fit (places-on i w) ∙ places_fit-on (places i w) (waiting_at w i));
    }

pub waiting-end : {n : ℕ} {w : List Float} {ok : Bool} {i : ℕ} → Waiting n w ok i → n ≤ i → ok ≡ places_fit (places n w)
waiting-end {n} {w} {ok} {i} all h =
    let e : i ≡ n = omega arith in
    all.passed ∙ ap (λ k. places_fit (places k w)) e

-- ---- the crumbs of a buffer
-- the first i of n crumbs fit or not, and with the rest of them all
pub record Passing (n : ℕ) (b : List Float) (ok : Bool) (i : ℕ) : Type 0 where
  pub within : i ≤ n
  pub whole : (ok && crumbs_fit (drop i (crumbs n b))) ≡ crumbs_fit (crumbs n b)

pub passing-start : (n : ℕ) (b : List Float) → Passing n b true 0
passing-start n b = record { within = omega arith; whole = refl }

pub passing-next : {n : ℕ} {b : List Float} {ok : Bool} {i : ℕ} {x : Bool} {c : Crumb} → Passing n b ok i → i < n → c ≡ crumb_at b i
    → x ≡ crumb_fits c
    → Passing n b (ok && x) (i + 1)
unfolding crumbs_fit
passing-next {n} {b} {ok} {i} {x} {c} before h at fits =
    record {
      within = omega arith;
      whole =
          and_assoc ok x (crumbs_fit (drop (i + 1) (crumbs n b)))
          ∙ ap (λ y. ok && y)
          (ap₂ (λ y k. y && crumbs_fit (drop k (crumbs n b))) (fits ∙ ap crumb_fits at) (add-one i)
          ∙ sym (ap crumbs_fit (drop-crumbs n b i h)))
          ∙ before.whole;
    }

pub passing-end : {n : ℕ} {b : List Float} {ok : Bool} {i : ℕ} → Passing n b ok i → n ≤ i → ok ≡ crumbs_fit (crumbs n b)
unfolding crumbs_fit
passing-end {n} {b} {ok} {i} all h =
    let e : length (crumbs n b) ≤ i = omega (arith, length-crumbs n b) in
    sym (ap (λ l. ok && crumbs_fit l) (drop_of_length-le (crumbs n b) e) ∙ and-true ok) ∙ all.whole

-- ---- those that lie between the bounds
between-passed : {n : ℕ} {b : List Float} {i : ℕ} → Leading least_sure most_sure n b i → (k : ℕ) → k ≤ i → Passing n b true k
between-passed {n} {b} l zero h = passing-start n b
between-passed {n} {b} l (suc k) h =
    subst (Passing n b true) (add-one k)
    (passing-next (between-passed l k (omega arith)) (omega (arith, l.within)) refl
    (sym (sure-fits (crumb_at b k) (l.each k (omega arith)))))

pub passing-from : {n : ℕ} {b : List Float} {i : ℕ} {least most : Crumb} → Leading least most n b i
    → least ≡ least_sure → most ≡ most_sure → Passing n b true i
passing-from {n} {b} {i} {least} {most} l low high = between-passed (rw (low, high) at l) i (omega arith)
