-- One of two by a test. Assumes nothing.
use mathlib.Core.Path.{◌≡◌, refl}
use mathlib.Core.Bool.{Bool, true, false, true≢false, false≢true}

module _ {A : Type 0} (x y : A) where
  pub picked : (b : Bool) → b ≡ true → elim b [ true ↦ x | false ↦ y ] ≡ x
  picked true e = refl
  picked false e = absurd (false≢true e)

  pub passed-by : (b : Bool) → b ≡ false → elim b [ true ↦ x | false ↦ y ] ≡ y
  passed-by true e = absurd (true≢false e)
  passed-by false e = refl
