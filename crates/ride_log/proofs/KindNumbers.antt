-- The kind of a number that is none of the first six. Assumes nothing.
use Prim.Native.Nat.{ℕ, zero, suc}
use mathlib.Core.Path.{◌≡◌, refl}
use Rattle.ride_log.specs.declared.Kind.TheVariants.{Full}
use Rattle.ride_log.specs.Entry.{kind_of}

pub last_kind : (n : ℕ) → (n ≡ 1 → ⊥) → (n ≡ 2 → ⊥) → (n ≡ 3 → ⊥) → (n ≡ 4 → ⊥) → (n ≡ 5 → ⊥) → (n ≡ 6 → ⊥) → Full ≡ kind_of n
unfolding kind_of
last_kind zero a b c d e f = refl
last_kind (suc zero) a b c d e f = absurd (a refl)
last_kind (suc (suc zero)) a b c d e f = absurd (b refl)
last_kind (suc (suc (suc zero))) a b c d e f = absurd (c refl)
last_kind (suc (suc (suc (suc zero)))) a b c d e f = absurd (d refl)
last_kind (suc (suc (suc (suc (suc zero))))) a b c d e f = absurd (e refl)
last_kind (suc (suc (suc (suc (suc (suc zero)))))) a b c d e f = absurd (f refl)
last_kind (suc (suc (suc (suc (suc (suc (suc zero))))))) a b c d e f = refl
last_kind (suc (suc (suc (suc (suc (suc (suc (suc n)))))))) a b c d e f = refl
