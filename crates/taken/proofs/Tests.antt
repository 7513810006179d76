-- What holds by a test, and the number of a question that says yes. Assumes nothing.
use Prim.Native.Nat.{ℕ}
use mathlib.Core.Path.{◌≡◌, refl}
use mathlib.Core.Bool.{Bool, true, false, cond}
use Rattle.calls.specs.Questions.{unless}

-- either of two, by a test
pub either : {A : Type 0} (P : A → Type 0) (b : Bool) {x y : A} → (b ≡ true → P x) → (b ≡ false → P y) → P (elim b [ true ↦ x | false ↦ y ])
either P true h k = h refl
either P false h k = k refl

-- the same, for `cond`
pub one_of : {A : Type 0} (P : A → Type 0) (b : Bool) {x y : A} → (b ≡ true → P x) → (b ≡ false → P y) → P (cond b x y)
one_of P true h k = h refl
one_of P false h k = k refl

-- a question that says yes
pub says-yes : {b : Bool} (n : ℕ) → b ≡ true → unless b n ≡ 0
says-yes n e = rw e
