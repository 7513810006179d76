-- The records reached from a next on, taken one by one. Assumes nothing.
use Prim.Native.Nat.{ℕ, zero, suc, ◌-◌}
use mathlib.Core.Path.{◌≡◌, refl}
use mathlib.Core.List.{List, [], ◌∷◌}
use native.Mathlib.Omega.{arith}
use Rattle.ride_log.specs.Entry.{next_of, records_from}

pub none-of-none : (n : ℕ) (f : List ℕ) (r : ℕ) → n ≡ 0 → records_from n f r ≡ []
unfolding records_from
none-of-none zero f r h = refl
none-of-none (suc n) f r h = absurd (omega arith)

pub none-at-end : (n : ℕ) (f : List ℕ) (r : ℕ) → r ≡ 0 → records_from n f r ≡ []
unfolding records_from
none-at-end zero f r h = refl
none-at-end (suc n) f zero h = refl
none-at-end (suc n) f (suc r) h = absurd (omega arith)

pub first-of : (n : ℕ) (f : List ℕ) (r x : ℕ) → (n ≡ 0 → ⊥) → (x ≡ 0 → ⊥) → x ≡ r
    → records_from n f r ≡ x ∷ records_from (n - 1) f (next_of f x)
unfolding records_from
first-of zero f r x h k e = absurd (h refl)
first-of (suc n) f zero x h k e = absurd (k e)
first-of (suc n) f (suc r) x h k e = let m : suc n - 1 ≡ n = omega arith in rw (m, e) refl
