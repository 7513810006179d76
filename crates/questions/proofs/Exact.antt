-- The tests against the nearest binary32 are what question 10 asks: of the binary32s none lies between a bound and the one nearest to it.
-- Assumes nothing.
use Prim.Native.Nat.{ℕ, suc, ◌+◌, ◌-◌, ◌*◌, ◌^◌, ◌≤◌, ◌<◌}
use native.Mathlib.Nat.{le_of_lt, mul_assoc, mul-one, mul_right_comm, mul-le-mul, mul-le-mul_right, le_of_mul-le-mul_right}
use native.Mathlib.Omega.{arith}
use mathlib.Core.Path.{◌≡◌, refl, sym, ap, ◌∙◌, subst}
use mathlib.Core.Bool.{Bool, true, false, ◌&&◌}
use borrow.Author.Tests.{leb-true, leb-false}
use lib.IntN.{ℤ, pos, negsuc}
use lib.Dec.{T, leb, ltb, leb→le, le→leb, ltb→lt, lt→ltb}
use lib.Pow.{pow_pos, pow-add}
use lib.Ieee.{Float, nan, inf, fin, binary32, fits, up, down, lt, le, eq}
use lib.Ieee.Fits.{down_pos}
use Rattle.binary32.specs.Arithmetic.{constant}
use Rattle.binary32.specs.Limits.{plus_zero, size_of}
use Rattle.binary32.proofs.magnitude.Round.{held}
use Rattle.binary32.proofs.magnitude.Tests.{within→le, size→within}
use Rattle.calls.specs.Questions.{up_to, sized, along_fits, factor_fits}
use Rattle.questions.specs.Sure.{place_most}
use Rattle.questions.proofs.limits.Numbers.{same}

-- ---- 100,000,000 is a binary32 itself
pub sized-tested : (x : Float) → le (size_of x) place_most ≡ sized x
unfolding place_most constant sized up_to le lt eq
sized-tested nan = refl
sized-tested (inf s) = refl
sized-tested (fin s m e) =
    same (le (fin false m e) (fin false 390625 (pos 8))) (leb (m * up e * 1) (10 ^ 8 * down e))
    (λ t. le→leb _ _ (size→within 390625 (pos 8) (fin s m e) tt t))
    (λ t. (within→le 390625 (pos 8) (fin false m e) (leb→le _ _ t)).0)

-- ---- 10^16: the binary32s next to it are 9313225 * 2^30, below it, and the nearest, 4656613 * 2^31, above it
unfoldable pub along_end : Float
along_end = constant (10 ^ 16) 1

low_part : (m k : ℕ) → m < 2 ^ 24 → k < 30 → m * 2 ^ k * 1 ≤ 9313225 * 2 ^ 30 * 1
low_part m k few l =
    let n : 29 - k + k ≡ 29 = omega arith in
    let e : 2 ^ (29 - k) * 2 ^ k ≡ 2 ^ 29 = sym (pow-add 2 (29 - k) k) ∙ ap (λ (i : ℕ). 2 ^ i) n in
    let p : 1 * 2 ^ k ≤ 2 ^ (29 - k) * 2 ^ k = mul-le-mul_right (2 ^ k) (pow_pos (29 - k)) in
    let q : 2 ^ k ≤ 2 ^ 29 = omega (arith, e, p) in
    let r : m * 2 ^ k ≤ 2 ^ 24 * 2 ^ 29 = mul-le-mul (le_of_lt few) q in
    omega (arith, r)

high_part : (m j : ℕ) → m * 2 ^ (j + 30) * 1 < 4656613 * 2 ^ 31 * 1 → m * 2 ^ (j + 30) * 1 ≤ 9313225 * 2 ^ 30 * 1
high_part m j l =
    let e : m * 2 ^ (j + 30) ≡ m * 2 ^ j * 2 ^ 30 = ap (λ (z : ℕ). m * z) (pow-add 2 j 30) ∙ sym (mul_assoc m (2 ^ j) (2 ^ 30)) in
    omega (arith, e, l)

pub whole_part : (m k : ℕ) → m < 2 ^ 24 → m * 2 ^ k * 1 < 4656613 * 2 ^ 31 * 1 → m * 2 ^ k * 1 ≤ 9313225 * 2 ^ 30 * 1
whole_part m k few l = by (leb 30 k) refl
  where
    by : (b : Bool) → leb 30 k ≡ b → m * 2 ^ k * 1 ≤ 9313225 * 2 ^ 30 * 1
    by true e =
        let r : k - 30 + 30 ≡ k = omega (arith, leb-true 30 k e) in
        subst (λ (i : ℕ). m * 2 ^ i * 1 ≤ 9313225 * 2 ^ 30 * 1) r
        (high_part m (k - 30) (subst (λ (i : ℕ). m * 2 ^ i * 1 < 4656613 * 2 ^ 31 * 1) (sym r) l))
    by false e = low_part m k few (leb-false 30 k e)

pub small-part : (m d : ℕ) → m < 2 ^ 24 → 0 < d → m * 1 * 1 ≤ 9313225 * 2 ^ 30 * d
small-part m d few some = omega arith

before-end : (m : ℕ) (e : ℤ) → m < 2 ^ 24 → m * up e * 1 < 4656613 * 2 ^ 31 * down e → m * up e * 1 ≤ 10 ^ 16 * down e
before-end m (pos k) few l = omega (arith, whole_part m k few l)
before-end m (negsuc k) few l = omega (arith, small-part m (2 ^ suc k) few (pow_pos (suc k)))

up-to-end : (y d : ℕ) → 0 < d → y * 1 ≤ 10 ^ 16 * d → y * 1 < 4656613 * 2 ^ 31 * d
up-to-end y d some h = omega arith

more : (y d : ℕ) → 0 < d → 0 < y * 1 + 4656613 * 2 ^ 31 * d
more y d some = omega arith

below_end : (x : Float) → T (fits binary32 x) → lt x along_end ≡ up_to (10 ^ 16) 1 x
unfolding along_end constant lt up_to
below_end nan f = refl
below_end (inf s) f = refl
below_end (fin true m e) f =
    same (ltb 0 (m * up e * 1 + 4656613 * 2 ^ 31 * down e)) true (λ _. tt) (λ _. lt→ltb 0 _ (more (m * up e) (down e) (down_pos e)))
below_end (fin false m e) f =
    same (ltb (m * up e * 1) (4656613 * 2 ^ 31 * down e)) (leb (m * up e * 1) (10 ^ 16 * down e))
    (λ t. le→leb _ _ (before-end m e (held binary32 false m e f).0 (ltb→lt _ _ t)))
    (λ t. lt→ltb _ _ (up-to-end (m * up e) (down e) (down_pos e) (leb→le _ _ t)))

pub along-tested : (x : Float) → T (fits binary32 x) → (le plus_zero x && lt x along_end) ≡ along_fits x
unfolding along_fits
along-tested x f = ap (λ (b : Bool). le plus_zero x && b) (below_end x f)

-- ---- 0.02: the binary32s next to it are the nearest, 5368709 / 2^28, below it, and 10737419 / 2^29, above it
unfoldable pub factor_most : Float
factor_most = constant 2 100

rounded : (q : ℕ) → q * 100 ≤ 2 * 2 ^ 29 → q ≤ 10737418
rounded q h = omega arith

-- m / d as p * m parts of d * p, which are 2^29
module _ (m d p : ℕ) (e : d * p ≡ 2 ^ 29) (P : 0 < p) where
  to-fraction : m * 1 * 2 ^ 28 ≤ 5368709 * 1 * d → m * 1 * 100 ≤ 2 * d
  to-fraction h =
      let a : m * 1 * 2 ^ 28 * p ≤ 5368709 * 1 * d * p = mul-le-mul_right p h in
      let b : m * 1 * 2 ^ 28 * p ≡ m * p * 2 ^ 28 = ap (λ (z : ℕ). z * 2 ^ 28 * p) (mul-one m) ∙ mul_right_comm m (2 ^ 28) p in
      let c : 5368709 * 1 * d * p ≡ 5368709 * (d * p) = mul_assoc 5368709 d p in
      let f : m * 1 * 100 * p ≡ m * p * 100 = ap (λ (z : ℕ). z * 100 * p) (mul-one m) ∙ mul_right_comm m 100 p in
      let g : 2 * d * p ≡ 2 * (d * p) = mul_assoc 2 d p in
      le_of_mul-le-mul_right {k = p} (omega (arith, a, b, c, e, f, g)) P

  from-fraction : m * 1 * 100 ≤ 2 * d → m * 1 * 2 ^ 28 ≤ 5368709 * 1 * d
  from-fraction h =
      let a : m * 1 * 100 * p ≤ 2 * d * p = mul-le-mul_right p h in
      let b : m * 1 * 2 ^ 28 * p ≡ m * p * 2 ^ 28 = ap (λ (z : ℕ). z * 2 ^ 28 * p) (mul-one m) ∙ mul_right_comm m (2 ^ 28) p in
      let c : 5368709 * 1 * d * p ≡ 5368709 * (d * p) = mul_assoc 5368709 d p in
      let f : m * 1 * 100 * p ≡ m * p * 100 = ap (λ (z : ℕ). z * 100 * p) (mul-one m) ∙ mul_right_comm m 100 p in
      let g : 2 * d * p ≡ 2 * (d * p) = mul_assoc 2 d p in
      let q : m * p ≤ 10737418 = rounded (m * p) (omega (arith, a, e, f, g)) in
      le_of_mul-le-mul_right {k = p} (omega (arith, b, c, e, q)) P

parts : (k : ℕ) → k ≤ 28 → 2 ^ suc k * 2 ^ (28 - k) ≡ 2 ^ 29
parts k l = let n : suc k + (28 - k) ≡ 29 = omega arith in sym (pow-add 2 (suc k) (28 - k)) ∙ ap (λ (i : ℕ). 2 ^ i) n

many : (k : ℕ) → 28 < k → 2 ^ 30 ≤ 2 ^ suc k
many k l =
    let n : k - 29 + 30 ≡ suc k = omega arith in
    let e : 2 ^ suc k ≡ 2 ^ (k - 29) * 2 ^ 30 = ap (λ (i : ℕ). 2 ^ i) (sym n) ∙ pow-add 2 (k - 29) 30 in
    let p : 1 * 2 ^ 30 ≤ 2 ^ (k - 29) * 2 ^ 30 = mul-le-mul_right (2 ^ 30) (pow_pos (k - 29)) in
    omega (arith, e, p)

to-factor : (m : ℕ) (e : ℤ) → m < 2 ^ 24 → m * up e * 2 ^ 28 ≤ 5368709 * 1 * down e → m * up e * 100 ≤ 2 * down e
to-factor m (pos k) few h = omega (arith, h)
to-factor m (negsuc k) few h = by (leb k 28) refl
  where
    by : (b : Bool) → leb k 28 ≡ b → m * 1 * 100 ≤ 2 * 2 ^ suc k
    by true t = to-fraction m (2 ^ suc k) (2 ^ (28 - k)) (parts k (leb-true k 28 t)) (pow_pos (28 - k)) h
    by false t = omega (arith, few, many k (leb-false k 28 t))

from-factor : (m : ℕ) (e : ℤ) → m < 2 ^ 24 → m * up e * 100 ≤ 2 * down e → m * up e * 2 ^ 28 ≤ 5368709 * 1 * down e
from-factor m (pos k) few h = omega (arith, h)
from-factor m (negsuc k) few h = by (leb k 28) refl
  where
    by : (b : Bool) → leb k 28 ≡ b → m * 1 * 2 ^ 28 ≤ 5368709 * 1 * 2 ^ suc k
    by true t = from-fraction m (2 ^ suc k) (2 ^ (28 - k)) (parts k (leb-true k 28 t)) (pow_pos (28 - k)) h
    by false t = omega (arith, few, many k (leb-false k 28 t))

pub factor-tested : (x : Float) → T (fits binary32 x) → le (size_of x) factor_most ≡ factor_fits x
unfolding factor_most constant factor_fits up_to le lt eq
factor-tested nan f = refl
factor-tested (inf s) f = refl
factor-tested (fin s m e) f =
    same (le (fin false m e) (fin false 5368709 (negsuc 27))) (leb (m * up e * 100) (2 * down e))
    (λ t. le→leb _ _ (to-factor m e (held binary32 s m e f).0 (size→within 5368709 (negsuc 27) (fin s m e) tt t)))
    (λ t. (within→le 5368709 (negsuc 27) (fin false m e) (from-factor m e (held binary32 s m e f).0 (leb→le _ _ t))).0)

-- ---- an along that is surely below 10^16
surely : (y d : ℕ) → y * 1 ≤ 14901161 * 2 ^ 26 * d → y * 1 ≤ 10 ^ 16 * d
surely y d h = omega arith

pub sure-along : (x : Float) → le x (constant (10 ^ 15) 1) ≡ true → up_to (10 ^ 16) 1 x ≡ true
unfolding constant up_to le lt eq
sure-along nan h = h
sure-along (inf true) h = refl
sure-along (inf false) h = h
sure-along (fin true m e) h = refl
sure-along (fin false m e) h =
    same (leb (m * up e * 1) (10 ^ 16 * down e)) true (λ _. tt)
    (λ _. le→leb _ _ (surely (m * up e) (down e) (size→within 14901161 (pos 26) (fin false m e) tt (subst T (sym h) tt))))
