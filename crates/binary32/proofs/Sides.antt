-- `isqrt n` is the whole part of the root of n, and `halves n` compares with twice a whole number h as twice the exact root of n does, that
-- is, as n compares with h * h. Assumes nothing.
use Rattle.std.proofs.Common.{◌≡◌, ℕ, zero, suc, ◌+◌, ◌*◌, ◌/◌, ◌^◌, ◌<◌, ◌≤◌, Bool, true, false, cond, not, T, eqb, ltb, sym, ap, ◌∙◌}
use Rattle.std.proofs.Common.{subst, lt_of_lt_of_le, le_of_suc-le-suc, lt_of_le_of_lt, le_of_lt, add_assoc, lt_irrefl, zero-lt-suc}
use Rattle.std.proofs.Common.{div-lt_iff_lt-mul, add-mul, mul-le-mul, add_comm, le_antisymm, one-mul, pow-suc, lt_of_not-le, mul-one}
use Rattle.std.proofs.Common.{mul-add, not-le_of_lt, two-mul, add-one, arith, eqb→eq, ltb→lt, nltb→le}
use native.Mathlib.Nat.{add_left_comm}
use lib.Dec.{eqb_refl}
use lib.Ieee.{size}
use lib.Ieee.Digits.{size-lt}
use Rattle.binary32.specs.Root.{digit, digits, isqrt, halves}
use Rattle.binary32.specs.Inner.{IsRoot}

square-twice : (r : ℕ) → 2 * r * (2 * r) ≡ 4 * (r * r)
square-twice r = let e : 2 * r * (2 * r) ≡ r * r + r * r + (r * r + r * r) = simp (two-mul, mul-add, add-mul, add_assoc) in omega arith

pub square-next : (r : ℕ) → (r + 1) * (r + 1) ≡ r * r + 2 * r + 1
square-next r =
    let e : (r + 1) * (r + 1) ≡ r * r + r + (r + 1) = simp (mul-add, add-mul, mul-one, one-mul, add_assoc, add_comm, add_left_comm) in
    omega arith

square-two-on : (r : ℕ) → (2 * r + 1 + 1) * (2 * r + 1 + 1) ≡ 4 * ((r + 1) * (r + 1))
square-two-on r = let e : 2 * r + 1 + 1 ≡ 2 * (r + 1) = omega arith in ap (λ (x : ℕ). x * x) e ∙ square-twice (r + 1)

digit-root : (n r : ℕ) → IsRoot (n / 4) r → IsRoot n (digit n r)
unfolding digit
digit-root n r h = go (ltb n ((2 * r + 1) * (2 * r + 1))) (ltb→lt n ((2 * r + 1) * (2 * r + 1))) (nltb→le n ((2 * r + 1) * (2 * r + 1)))
  where
    go : (b : Bool) → (T b → n < (2 * r + 1) * (2 * r + 1)) → (T (not b) → (2 * r + 1) * (2 * r + 1) ≤ n)
        → IsRoot n (cond b (2 * r) (2 * r + 1))
    go true y n' = (omega (arith, square-twice r), y tt)
    go false y n' = (n' tt, omega (arith, square-two-on r))

none : (n : ℕ) → n < 1 → IsRoot n 0
none n h = (omega arith, omega arith)

digits-root : (k n : ℕ) → n < 4 ^ k → IsRoot n (digits k n)
unfolding digits
digits-root zero n h = none n h
digits-root (suc k) n h = digit-root n (digits k (n / 4))
    (digits-root k (n / 4) ((div-lt_iff_lt-mul (zero-lt-suc 3)).1 (subst (λ (x : ℕ). n < x) (pow-suc 4 k) h)))

two-four : (k : ℕ) → 2 ^ k ≤ 4 ^ k
two-four zero = omega arith
two-four (suc k) =
    let a : 2 ^ suc k ≡ 2 ^ k * 2 = pow-suc 2 k in
    let b : 4 ^ suc k ≡ 4 ^ k * 4 = pow-suc 4 k in
    let c : 2 ^ k ≤ 4 ^ k = two-four k in
    omega arith

pub isqrt-root : (n : ℕ) → IsRoot n (isqrt n)
unfolding isqrt
isqrt-root n = digits-root (size n) n (lt_of_lt_of_le (size-lt n) (two-four (size n)))

-- squares are in the order of their roots
pub square_le : (a b : ℕ) → a ≤ b → a * a ≤ b * b
square_le a b h = mul-le-mul h h

pub square-lt-back : (a b : ℕ) → a * a < b * b → a < b
square-lt-back a b h = lt_of_not-le (λ (g : b ≤ a). not-le_of_lt h (square_le b a g))

pub square-le-back : (a b : ℕ) → a * a ≤ b * b → a ≤ b
square-le-back a b h = le_of_suc-le-suc
    (lt_of_not-le (λ (g : suc b ≤ a). lt_irrefl (b * b) (lt_of_lt_of_le (lt_of_lt_of_le (before b) (square_le (suc b) a g)) h)))
  where
    before : (x : ℕ) → x * x < suc x * suc x
    before x = let e : suc x * suc x ≡ x * x + 2 * x + 1 = ap (λ (y : ℕ). y * y) (sym (add-one x)) ∙ square-next x in omega arith

-- the three ways that n can compare with h * h
below_at : (n w h : ℕ) (b : Bool) → IsRoot n w → n < h * h → 2 * w + cond b 0 1 < 2 * h
below_at n w h b i l =
    let k : w < h = square-lt-back w h (lt_of_le_of_lt i.0 l) in
    go b k
  where
    go : (c : Bool) → w < h → 2 * w + cond c 0 1 < 2 * h
    go true k = omega arith
    go false k = omega arith

above_at : (n w h : ℕ) (b : Bool) → (T b → w * w ≡ n) → IsRoot n w → h * h < n → 2 * h < 2 * w + cond b 0 1
above_at n w h true e i l = let k : h < w = square-lt-back h w (subst (λ (x : ℕ). h * h < x) (sym (e tt)) l) in omega arith
above_at n w h false e i l = let k : h < w + 1 = square-lt-back h (w + 1) (lt_of_le_of_lt (le_of_lt l) i.1) in omega arith

exact-at : (n w h : ℕ) (b : Bool) → (w * w ≡ n → T b) → IsRoot n w → h * h ≡ n → 2 * w + cond b 0 1 ≡ 2 * h
exact-at n w h b t i e =
    let k : h ≤ w = le_of_suc-le-suc
    (subst (λ (x : ℕ). h < x) (add-one w) (square-lt-back h (w + 1) (subst (λ (x : ℕ). x < (w + 1) * (w + 1)) (sym e) i.1))) in
    let l : w ≤ h = square-le-back w h (subst (λ (x : ℕ). w * w ≤ x) (sym e) i.0) in
    let s : w ≡ h = le_antisymm l k in
    go b (t (ap (λ (x : ℕ). x * x) s ∙ e)) s
  where
    go : (c : Bool) → T c → w ≡ h → 2 * w + cond c 0 1 ≡ 2 * h
    go true u s = omega arith
    go false u s = absurd u

eq→eqb : (a b : ℕ) → a ≡ b → T (eqb a b)
eq→eqb a b p = subst (λ (x : ℕ). T (eqb a x)) p (eqb_refl a)

pub halves-below : (n h : ℕ) → n < h * h → halves n < 2 * h
unfolding halves
halves-below n h l = below_at n (isqrt n) h (eqb (isqrt n * isqrt n) n) (isqrt-root n) l

pub halves-above : (n h : ℕ) → h * h < n → 2 * h < halves n
unfolding halves
halves-above n h l = above_at n (isqrt n) h (eqb (isqrt n * isqrt n) n) (eqb→eq (isqrt n * isqrt n) n) (isqrt-root n) l

pub halves-exact : (n h : ℕ) → h * h ≡ n → halves n ≡ 2 * h
unfolding halves
halves-exact n h e = exact-at n (isqrt n) h (eqb (isqrt n * isqrt n) n) (eq→eqb (isqrt n * isqrt n) n) (isqrt-root n) e
