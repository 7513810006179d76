-- The laws of choices. Assumes nothing.
use Prim.Native.Nat.{ℕ, zero, suc, ◌≤◌}
use mathlib.Core.Path.{◌≡◌, refl, ap}
use mathlib.Core.List.{List, [], ◌∷◌, ◌++◌, map}
use Rattle.std.specs.Prelude.{Some}
use native.Mathlib.Omega.{arith}
use lib.ListN.{length, take}
use Rattle.crumbs.specs.Choice.{Choice, end, leave, strike, first, last}

module _ {A : Type 0} where
  -- the whole list
  pub choice-all : (l : List A) → Choice l l
  choice-all [] = end
  choice-all (a ∷ l) = leave (choice-all l)

  -- nothing
  pub choice-none : (l : List A) → Choice [] l
  choice-none [] = end
  choice-none (a ∷ l) = strike (choice-none l)

  -- a choice of a choice
  pub choice-trans : {k m l : List A} → Choice k m → Choice m l → Choice k l
  choice-trans d end = d
  choice-trans {m = a ∷ m} (leave {m = k} d) (leave c) = leave (choice-trans {k = k} {m = m} d c)
  choice-trans {k = k} {m = a ∷ m} (strike d) (leave c) = strike (choice-trans {k = k} {m = m} d c)
  choice-trans {k = k} {m = m} d (strike c) = strike (choice-trans {k = k} {m = m} d c)

  -- in front of both, and behind both
  pub choice-cons : {m l : List A} (a : A) → Choice m l → Choice (a ∷ m) (a ∷ l)
  choice-cons a c = leave c

  pub choice-append : {m l m' l' : List A} → Choice m l → Choice m' l' → Choice (m ++ m') (l ++ l')
  choice-append end d = d
  choice-append (leave c) d = leave (choice-append c d)
  choice-append (strike c) d = strike (choice-append c d)

  pub choice-snoc : {m l : List A} (a : A) → Choice m l → Choice (m ++ a ∷ []) (l ++ a ∷ [])
  choice-snoc a c = choice-append c (leave end)

  -- a front part
  pub choice-take : (n : ℕ) (l : List A) → Choice (take n l) l
  choice-take zero l = choice-none l
  choice-take (suc n) [] = end
  choice-take (suc n) (a ∷ l) = leave (choice-take n l)

  pub choice-length : {m l : List A} → Choice m l → length m ≤ length l
  choice-length end = omega arith
  choice-length (leave c) = omega (arith, choice-length c)
  choice-length (strike c) = omega (arith, choice-length c)

  -- ---- the first, and the last
  pub first-snoc : (m l : List A) (a : A) → first m ≡ first l → first (m ++ a ∷ []) ≡ first (l ++ a ∷ [])
  first-snoc [] [] a e = refl
  first-snoc [] (y ∷ l) a e = cc
  first-snoc (x ∷ m) [] a e = cc
  first-snoc (x ∷ m) (y ∷ l) a e = e

  pub first-take : (n : ℕ) (l : List A) → 1 ≤ n → first (take n l) ≡ first l
  first-take zero l h = absurd (omega arith)
  first-take (suc n) [] h = refl
  first-take (suc n) (a ∷ l) h = refl

  pub last_snoc : (l : List A) (a : A) → last (l ++ a ∷ []) ≡ Some a
  last_snoc [] a = refl
  last_snoc (x ∷ []) a = refl
  last_snoc (x ∷ y ∷ l) a = last_snoc (y ∷ l) a

module _ {A B : Type 0} (f : A → B) where
  -- of what each is taken to, as the places of crumbs
  pub choice-map : {m l : List A} → Choice m l → Choice (map f m) (map f l)
  choice-map end = end
  choice-map (leave c) = leave (choice-map c)
  choice-map (strike c) = strike (choice-map c)

  pub first-map : (m l : List A) → first m ≡ first l → first (map f m) ≡ first (map f l)
  first-map [] [] e = refl
  first-map [] (y ∷ l) e = let z : ◌≡◌ {A = ℕ} 0 1 = cc in absurd (omega arith)
  first-map (x ∷ m) [] e = let z : ◌≡◌ {A = ℕ} 0 1 = cc in absurd (omega arith)
  first-map (x ∷ m) (y ∷ l) e = let i : x ≡ y = cc in ap (λ z. Some (f z)) i
