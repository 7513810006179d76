-- A size is at most a bound where the number lies from the negative bound to the bound: the tests of places and factors. Assumes nothing.
use Prim.Native.Nat.{ℕ}
use mathlib.Core.Path.{◌≡◌, refl}
use mathlib.Core.Bool.{Bool, true, false, ◌&&◌}
use lib.Dec.{T}
use lib.IntN.{ℤ}
use lib.Ieee.{Float, nan, inf, fin, le, lt, eq}
use lib.Ieee.Fits.{and_i, and_l, and_r}
use Rattle.binary32.specs.Limits.{size_of}
use Rattle.binary32.proofs.magnitude.Tests.{within→le, le→within, size→within}

-- two tests that pass together
pub same : (a b : Bool) → (T a → T b) → (T b → T a) → a ≡ b
same true true f g = refl
same false false f g = refl
same true false f g = absurd (f tt)
same false true f g = absurd (g tt)

module _ (n : ℕ) (d : ℤ) where
  -- from -b to b, for the bound b
  abbrev between : Float → Bool
  between x = le (fin true n d) x && le x (fin false n d)

  nan-within : between nan ≡ le nan (fin false n d)
  unfolding le lt eq
  nan-within = refl

  inf-within : (s : Bool) → between (inf s) ≡ le (inf false) (fin false n d)
  unfolding le lt eq
  inf-within true = refl
  inf-within false = refl

  pub sized-within : (x : Float) → (le (fin true n d) x && le x (fin false n d)) ≡ le (size_of x) (fin false n d)
  sized-within nan = nan-within
  sized-within (inf s) = inf-within s
  sized-within (fin s m e) =
      let low = le (fin true n d) (fin s m e) in
      let high = le (fin s m e) (fin false n d) in
      same (low && high) (le (fin false m e) (fin false n d))
      (λ t. (within→le n d (fin false m e) (le→within n d (fin s m e) (and_r low high t) (and_l low high t))).0)
      (λ t. let w = within→le n d (fin s m e) (size→within n d (fin s m e) tt t) in and_i low high w.1 w.0)
