-- A quotient of finite values by one above zero is no NaN, and what is no NaN is a share once it is clamp to 0 to 1.
-- Assumes nothing.
use Rattle.std.proofs.Common.{◌≡◌, ℕ, zero, suc, ◌+◌, ◌*◌, ◌^◌, ◌<◌, ◌≤◌, Bool, true, false, cond, not, T, eqb, ltb, ℤ, sym, refl, ap, ◌∙◌}
use Rattle.std.proofs.Common.{subst, le_trans, le_of_eq, le_refl, lt_irrefl, mul-le-mul_right, zero-lt-suc, mul_assoc, mul_comm, mul-pos}
use Rattle.std.proofs.Common.{one-mul, zero-mul, mul-one, arith, eqb→eq, ltb→lt, nltb→le}
use lib.Ieee.{Float, nan, inf, fin, Format, prec, low, up, down, unlike, odd, units, round, fits, mul, div, lt, is_nan}
use lib.Ieee.Fits.{up_pos, down_pos, round_is}
use lib.Ieee.Order.{drop, kept}
use lib.Ieee.Scale.{finite, overflow}
use lib.Ieee.Positive.{first_pos}
use Rattle.binary32.specs.Limits.{plus_zero, one, clamp}
use Rattle.binary32.proofs.magnitude.Size.{Within, NonNeg, Share}
use Rattle.binary32.proofs.magnitude.Round.{round-held, held}

-- ---- `round` makes no NaN
odd_no_nan : (d : ℕ) (s : Bool) (q k l : ℕ) → T (not (is_nan (odd d s q k l)))
unfolding odd is_nan
odd_no_nan d s zero k l = tt
odd_no_nan d s (suc q) k l = tt

units-no-nan : (f : Format) (s : Bool) (q k : ℕ) → T (not (is_nan (units f s q k)))
unfolding units is_nan
units-no-nan f s q k = go (ltb (q * 2 ^ k) (overflow f))
  where
    go : (b : Bool) → T (not (is_nan (cond b (odd (suc (prec f)) s q k (low f)) (inf s))))
    go true = odd_no_nan (suc (prec f)) s q k (low f)
    go false = tt

pub round-no-nan : (f : Format) (s : Bool) (a c : ℕ) → T (not (is_nan (round f s a c)))
round-no-nan f s a c = subst (λ (z : Float). T (not (is_nan z))) (sym (round_is f s a c))
    (units-no-nan f s (kept (prec f) (a * 2 ^ low f) c) (drop (prec f) (a * 2 ^ low f) c))

-- ---- div
pub not-zero : (n : ℕ) → 0 < n → n ≡ 0 → ⊥
not-zero n h e = omega arith

lt-num : (n : ℕ) (t : Bool) (d : ℤ) → T (lt plus_zero (fin t n d)) → 0 < n
unfolding lt
lt-num n true d h = absurd h
lt-num n false d h =
    first_pos n (up d) (first_pos (n * up d) 1 (le_trans (step (0 * 1 * down d)) (ltb→lt (0 * 1 * down d) (n * up d * 1) h)))
  where
    step : (z : ℕ) → 1 ≤ suc z
    step z = omega arith

pub div-no-nan : (f : Format) (x y : Float) → T (finite x) → T (finite y) → T (lt plus_zero y) → T (not (is_nan (div f x y)))
unfolding div
div-no-nan f nan y p q h = absurd p
div-no-nan f (inf s) y p q h = absurd p
div-no-nan f (fin s m e) nan p q h = absurd q
div-no-nan f (fin s m e) (inf t) p q h = absurd q
div-no-nan f (fin s m e) (fin t n d) p q h = go (eqb n 0) (eqb→eq n 0)
  where
    go : (b : Bool) → (T b → n ≡ 0)
        → T (not (is_nan (cond b (cond (eqb m 0) nan (inf (unlike s t))) (round f (unlike s t) (m * up e * down d) (n * up d * down e)))))
    go true g = absurd (not-zero n (lt-num n t d h) (g tt))
    go false g = round-no-nan f (unlike s t) (m * up e * down d) (n * up d * down e)

-- ---- the clamp
pub zero-share : Share plus_zero
zero-share = le_trans (le_of_eq (zero-mul 1)) (omega arith)

one-share : Share one
one-share = le_refl 1

zero-sum : (a b : ℕ) → a + b ≤ 0 → a ≡ 0
zero-sum a b h = omega arith

no-factor : (m u : ℕ) → 0 < u → m * u * 1 ≡ 0 → m ≡ 0
no-factor zero u U e = refl
no-factor (suc m) u U e = absurd (lt_irrefl 0 (subst (λ (z : ℕ). 0 < z) e (mul-pos (mul-pos (zero-lt-suc m) U) (zero-lt-suc 0))))

pub clamp-share : (x : Float) → T (not (is_nan x)) → Share (clamp x)
unfolding clamp is_nan lt
clamp-share nan h = absurd h
clamp-share (inf true) h = zero-share
clamp-share (inf false) h = one-share
clamp-share (fin true m e) h = go (ltb 0 (m * up e * 1 + 0 * 1 * down e)) (nltb→le 0 (m * up e * 1 + 0 * 1 * down e))
  where
    go : (b : Bool) → (T (not b) → m * up e * 1 + 0 * 1 * down e ≤ 0) → Share (cond b plus_zero (fin true m e))
    go true g = zero-share
    go false g = no-factor m (up e) (up_pos e) (zero-sum (m * up e * 1) (0 * 1 * down e) (g tt))
clamp-share (fin false m e) h =
    go (ltb (m * up e * 1) (0 * 1 * down e)) (ltb (1 * 1 * down e) (m * up e * 1)) (nltb→le (1 * 1 * down e) (m * up e * 1))
  where
    go : (b c : Bool) → (T (not c) → m * up e * 1 ≤ 1 * 1 * down e) → Share (cond b plus_zero (cond c one (fin false m e)))
    go true c g = zero-share
    go false true g = one-share
    go false false g = le_trans (le_of_eq (sym (mul-one (m * up e)))) (le_trans (g tt) (le_of_eq (one-mul (down e))))

pub clamp-div : (f : Format) (x y : Float) → T (finite x) → T (finite y) → T (lt plus_zero y) → Share (clamp (div f x y))
clamp-div f x y p q h = clamp-share (div f x y) (div-no-nan f x y p q h)

-- ---- a share of a value that the format holds lies between 0 and that value
pub at_most : (t td x xd : ℕ) → t ≤ td → t * x * xd ≤ x * (td * xd)
at_most t td x xd h =
    le_trans (mul-le-mul_right xd (mul-le-mul_right x h)) (le_of_eq (ap (λ (z : ℕ). z * xd) (mul_comm td x) ∙ mul_assoc x td xd))

part_of : (s : Bool) (m : ℕ) (e : ℤ) → Share (fin s m e) → m * up e ≤ down e
part_of false m e h = h
part_of true m e h = subst (λ (z : ℕ). z * up e ≤ down e) (sym h) (le_trans (le_of_eq (zero-mul (up e))) (least (down e)))
  where
    least : (z : ℕ) → 0 ≤ z
    least z = omega arith

pub share-within : (f : Format) (t x : Float) → Share t → T (fits f x) → T (finite x) → Within x (mul f t x)
unfolding mul
share-within f nan x s p h = absurd s
share-within f (inf u) x s p h = absurd s
share-within f (fin u m e) nan s p h = absurd h
share-within f (fin u m e) (inf v) s p h = absurd h
share-within f (fin u m e) (fin v n d) s p h =
    round-held f (unlike u v) (m * up e * (n * up d)) (down e * down d) v n d (held f v n d p) (mul-pos (down_pos e) (down_pos d))
    (at_most (m * up e) (down e) (n * up d) (down d) (part_of u m e s))

pub share-nonneg : (t : Float) → Share t → NonNeg t
share-nonneg nan h = absurd h
share-nonneg (inf s) h = absurd h
share-nonneg (fin true m e) h = h
share-nonneg (fin false m e) h = tt
