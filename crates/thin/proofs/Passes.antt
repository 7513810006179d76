-- What holds of one pass, by the rules alone. Assumes nothing.
use Prim.Native.Nat.{ℕ, zero, suc, ◌+◌, ◌-◌, ◌/◌, ◌≤◌, ◌<◌, min}
use mathlib.Core.Path.{◌≡◌, refl, ap, ◌∙◌}
use mathlib.Core.Bool.{Bool, true, false}
use mathlib.Core.List.{List, [], ◌∷◌}
use native.Mathlib.Omega.{arith}
use lib.ListN.{length, get_or, take, drop}
use lib.Ieee.{Float}
use Rattle.crumbs.specs.declared.Crumb.{Crumb}
use Rattle.crumbs.specs.Choice.{Choice, end, leave, strike, first, last}
use Rattle.thin.specs.Crumb.{clear, farther, reach, two_on, pass_by, halving_pass}
use Rattle.thin.specs.Inner.{step_by}

-- ---- a step goes on, and stays within the line
pub record Within (step : Crumb → List Crumb → ℕ) : Type 0 where
  pub low : (a : Crumb) (l : List Crumb) → 1 ≤ length l → 1 ≤ step a l
  pub high : (a : Crumb) (l : List Crumb) → 1 ≤ length l → step a l ≤ length l

farther-low : (t : Float) (a : Crumb) (l : List Crumb) (k n : ℕ) → k ≤ farther t a l k n
unfolding farther
farther-low t a l k zero = omega arith
farther-low t a l k (suc n) = pick (clear t a (get_or l k a) (take k l)) (farther-low t a l (suc k) n)
  where
    pick : (b : Bool) → suc k ≤ farther t a l (suc k) n → k ≤ elim b [ true ↦ farther t a l (suc k) n | false ↦ k ]
    pick true h = omega arith
    pick false h = omega arith

farther-high : (t : Float) (a : Crumb) (l : List Crumb) (k n : ℕ) → farther t a l k n ≤ k + n
unfolding farther
farther-high t a l k zero = omega arith
farther-high t a l k (suc n) = pick (clear t a (get_or l k a) (take k l)) (farther-high t a l (suc k) n)
  where
    pick : (b : Bool) → farther t a l (suc k) n ≤ suc k + n → elim b [ true ↦ farther t a l (suc k) n | false ↦ k ] ≤ k + suc n
    pick true h = omega arith
    pick false h = omega arith

-- with no more ends to try than there are
farther-within : (t : Float) (a : Crumb) (l : List Crumb) (n : ℕ) → 1 ≤ length l → n ≤ length l - 1 → farther t a l 1 n ≤ length l
farther-within t a l n h k = omega (arith, farther-high t a l 1 n)

pub reach-within : (t : Float) → Within (reach t)
unfolding reach
reach-within t = record { low = λ a l h. farther-low t a l 1 _; high = λ a l h. farther-within t a l _ h (omega arith) }

pub two_on-within : Within two_on
unfolding two_on
two_on-within = record { low = λ a l h. omega arith; high = λ a l h. omega arith }

pub step-within : (halve : Bool) (t : Float) → Within (step_by halve t)
unfolding step_by
step-within true t = two_on-within
step-within false t = reach-within t

-- ---- a pass
module _ (step : Crumb → List Crumb → ℕ) where
  pub pass-drop : (k : ℕ) (l : List Crumb) → pass_by step k l ≡ pass_by step 0 (drop k l)
  unfolding pass_by
  pass-drop zero l = refl
  pass-drop (suc k) [] = refl
  pass-drop (suc k) (a ∷ l) = pass-drop k l

  pub pass-none : (k : ℕ) → pass_by step k [] ≡ []
  unfolding pass_by
  pass-none k = refl

  pub pass-keep : (a : Crumb) (l : List Crumb) → pass_by step 0 (a ∷ l) ≡ a ∷ pass_by step (step a l - 1) l
  unfolding pass_by
  pass-keep a l = refl

  pub pass-choice : (k : ℕ) (l : List Crumb) → Choice (pass_by step k l) l
  unfolding pass_by
  pass-choice k [] = end
  pass-choice zero (a ∷ l) = leave (pass-choice (step a l - 1) l)
  pass-choice (suc k) (a ∷ l) = strike (pass-choice k l)

  pub pass-first : (l : List Crumb) → first (pass_by step 0 l) ≡ first l
  unfolding pass_by
  pass-first [] = refl
  pass-first (a ∷ l) = refl

-- a list that ends as another that is not empty, with one in front
last_cons : (a b : Crumb) (m l : List Crumb) → last m ≡ last (b ∷ l) → last (a ∷ m) ≡ last (b ∷ l)
last_cons a b [] [] e = let z : ◌≡◌ {A = ℕ} 0 1 = cc in absurd (omega arith)
last_cons a b [] (c ∷ l) e = last_cons a c [] l e
last_cons a b (d ∷ m) l e = e

module _ {step : Crumb → List Crumb → ℕ} (w : Within step) where
  -- what is struck out leaves the last crumb
  rest : (a b : Crumb) (l : List Crumb) → step a (b ∷ l) - 1 < length (b ∷ l)
  rest a b l = omega (arith, w.low a (b ∷ l) (omega arith), w.high a (b ∷ l) (omega arith))

  pass-last : (k : ℕ) (l : List Crumb) → k < length l → last (pass_by step k l) ≡ last l
  unfolding pass_by
  pass-last k [] h = absurd (omega arith)
  pass-last zero (a ∷ []) h = refl
  pass-last zero (a ∷ b ∷ l) h =
      last_cons a b (pass_by step (step a (b ∷ l) - 1) (b ∷ l)) l (pass-last (step a (b ∷ l) - 1) (b ∷ l) (rest a b l))
  pass-last (suc k) (a ∷ []) h = absurd (omega arith)
  pass-last (suc k) (a ∷ b ∷ l) h = pass-last k (b ∷ l) (omega arith)

  pub pass-ends : (l : List Crumb) → 2 ≤ length l → last (pass_by step 0 l) ≡ last l
  pass-ends l h = pass-last 0 l (omega arith)

  pass-some : (k : ℕ) (l : List Crumb) → k < length l → 1 ≤ length (pass_by step k l)
  unfolding pass_by
  pass-some k [] h = absurd (omega arith)
  pass-some zero (a ∷ l) h = omega arith
  pass-some (suc k) (a ∷ l) h = pass-some k l (omega arith)

  pub pass-both : (l : List Crumb) → 2 ≤ length l → 2 ≤ length (pass_by step 0 l)
  unfolding pass_by
  pass-both [] h = absurd (omega arith)
  pass-both (a ∷ []) h = absurd (omega arith)
  pass-both (a ∷ b ∷ l) h = omega (arith, pass-some (step a (b ∷ l) - 1) (b ∷ l) (rest a b l))

  -- two crumbs or fewer are left
  pub pass-few : (l : List Crumb) → length l ≤ 2 → pass_by step 0 l ≡ l
  unfolding pass_by
  pass-few [] h = refl
  pass-few (a ∷ []) h = refl
  pass-few (a ∷ b ∷ []) h = let e : step a (b ∷ []) - 1 ≡ 0 = omega (arith, rest a b []) in ap (λ k. a ∷ pass_by step k (b ∷ [])) e
  pass-few (a ∷ b ∷ c ∷ l) h = absurd (omega arith)

-- ---- a halving pass
halving-on : (a b c : Crumb) (l : List Crumb) → halving_pass (a ∷ b ∷ c ∷ l) ≡ a ∷ halving_pass (c ∷ l)
unfolding halving_pass pass_by two_on
halving-on a b c l =
    let e : min 2 (length (b ∷ c ∷ l)) - 1 ≡ 1 = omega arith in
    ap (λ k. a ∷ pass_by two_on k (b ∷ c ∷ l)) e

pub halving-length : (a : Crumb) (l : List Crumb) → length (halving_pass (a ∷ l)) ≡ length (a ∷ l) / 2 + 1
unfolding halving_pass pass_by two_on
halving-length a [] = refl
halving-length a (b ∷ []) = refl
halving-length a (b ∷ c ∷ l) = ap length (halving-on a b c l) ∙ omega (arith, halving-length c l)
