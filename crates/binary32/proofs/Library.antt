-- The root of the library, which `f32::sqrt` gives, is `root`: both round the same root, each at a scale of its own. Assumes nothing.
use Rattle.std.proofs.Common.{◌≡◌, ℕ, zero, suc, ◌+◌, ◌-◌, ◌*◌, ◌/◌, ◌%◌, ◌^◌, ◌<◌, ◌≤◌, Bool, true, false, cond, not, ◌&&◌, T, eqb, ltb}
use Rattle.std.proofs.Common.{leb, ℤ}
use Rattle.std.proofs.Common.{pos, negsuc, lit<, eqb→eq}
use Rattle.std.proofs.Common.{sym, refl, ap, ◌∙◌, subst, add-one, le_antisymm, le_of_suc-le-suc, lt_of_not-le, not-le_of_lt, lt_of_le_of_lt}
use Rattle.std.proofs.Common.{le_trans, le_of_eq, lt_of_lt_of_le, mul_assoc, mul_comm, mul_left_comm, mul_right_comm, mul-one, one-mul}
use Rattle.std.proofs.Common.{zero-lt-suc, pow-suc, pow-add, pow_pos, pow_mono, arith, ltb→lt, nltb→le, leb→le, mul-le-mul_right, lit≤}
use Rattle.std.proofs.Math.Nat.{mul-div_cancel}
use lib.Dec.{nleb→lt}
use lib.Ieee.{Float, nan, inf, fin, binary32, size, round, root_below, root_twice, sqrt, fits, up, down}
use lib.Ieee.Fits.{and_l, and_r, down_pos}
use lib.Ieee.Root.{whole_part}
use Rattle.binary32.specs.Root.{isqrt, halves, root}
use Rattle.binary32.specs.Inner.{IsRoot, Nearest}
use Rattle.binary32.proofs.Sides.{isqrt-root, square-lt-back, square-next}
use Rattle.binary32.proofs.Rounded.{rounded, rounded-at}

-- ---- the whole part of a root
no_larger : (n v w : ℕ) → IsRoot n v → IsRoot n w → v ≤ w
no_larger n v w a b =
    le_of_suc-le-suc (subst (λ (x : ℕ). v < x) (add-one w) (square-lt-back v (w + 1) (lt_of_le_of_lt a.0 b.1)))

twice-is : (n : ℕ) → root_twice n ≡ halves n
unfolding root_twice halves
twice-is n =
    let w = root_below (size n) n in
    let e : w ≡ isqrt n = le_antisymm (no_larger n w (isqrt n) (whole_part n) (isqrt-root n))
    (no_larger n (isqrt n) w (isqrt-root n) (whole_part n)) in
    ap (λ (r : ℕ). 2 * r + cond (eqb (r * r) n) 0 1) e

-- the whole number nearest to a root
nearest-of : (n : ℕ) → 0 < n → (q : ℕ) × Nearest n q
nearest-of n P = go (isqrt n) (isqrt-root n)
  where
    at : (w : ℕ) → IsRoot n w → (b : Bool) → (T b → n ≤ w * w + w) → (T (not b) → w * w + w < n) → (q : ℕ) × Nearest n q
    at w i true h k = let g = h tt in (w, (positive w i g, g))
      where
        positive : (v : ℕ) → IsRoot n v → n ≤ v * v + v → v * v < n + v
        positive zero j g = omega arith
        positive (suc v) j g = omega (arith, j.0)
    at w i false h k = let g = k tt in let s = square-next w in (w + 1, (omega arith, omega (arith, i.1)))

    go : (w : ℕ) → IsRoot n w → (q : ℕ) × Nearest n q
    go w i = at w i (leb n (w * w + w)) (leb→le n (w * w + w)) (λ (t : T (not (leb n (w * w + w)))). nleb→lt n (w * w + w) t)

-- ---- a number of 24 digits times a power of two is one of 47 or 48 digits times a power of four
record Found (N : ℕ) : Type 0 where
  n : ℕ
  j : ℕ
  low : 2 ^ 46 ≤ n
  high : n < 2 ^ 48
  same : N ≡ n * (2 ^ j * 2 ^ j)

quadruple : (w k : ℕ) → w * 2 ^ suc (suc k) ≡ w * 2 ^ k * 4
quadruple w k = ap (λ (x : ℕ). w * x) (pow-suc 2 (suc k) ∙ ap (λ (x : ℕ). x * 2) (pow-suc 2 k) ∙ mul_assoc (2 ^ k) 2 2)
    ∙ sym (mul_assoc w (2 ^ k) 4)

carried : (x j : ℕ) → x * 4 * (2 ^ j * 2 ^ j) ≡ x * (2 ^ suc j * 2 ^ suc j)
carried x j =
    let p = 2 ^ j in
    let d : p * 2 * (p * 2) ≡ 4 * (p * p) = simp (mul_assoc, mul_comm, mul_left_comm) (sym (mul_assoc 2 2 (p * p))) in
    mul_assoc x 4 (p * p) ∙ ap (λ (y : ℕ). x * y) (sym (ap (λ (y : ℕ). y * y) (pow-suc 2 j) ∙ d))

find : (w k j N : ℕ) → w < 2 ^ 24 → 2 ^ 46 ≤ w * 2 ^ k → N ≡ w * 2 ^ k * (2 ^ j * 2 ^ j) → Found N
find w zero j N W l e = absurd (small W l)
  where
    small : w < 2 ^ 24 → 2 ^ 46 ≤ w * 1 → ⊥
    small a b = omega arith
find w (suc zero) j N W l e = absurd (small W l)
  where
    small : w < 2 ^ 24 → 2 ^ 46 ≤ w * 2 → ⊥
    small a b = omega arith
find w (suc (suc k)) j N W l e =
    go (ltb (w * 2 ^ suc (suc k)) (2 ^ 48)) (ltb→lt (w * 2 ^ suc (suc k)) (2 ^ 48)) (nltb→le (w * 2 ^ suc (suc k)) (2 ^ 48))
    (find w k (suc j) N W)
  where
    go : (b : Bool) → (T b → w * 2 ^ suc (suc k) < 2 ^ 48) → (T (not b) → 2 ^ 48 ≤ w * 2 ^ suc (suc k))
        → (2 ^ 46 ≤ w * 2 ^ k → N ≡ w * 2 ^ k * (2 ^ suc j * 2 ^ suc j) → Found N) → Found N
    go true h i on = record { n = w * 2 ^ suc (suc k); j = j; low = l; high = h tt; same = e }
    go false h i on =
        let g = i tt in
        let q = quadruple w k in
        on (omega arith) (e ∙ ap (λ (x : ℕ). x * (2 ^ j * 2 ^ j)) q ∙ carried (w * 2 ^ k) j)

-- ---- what is under the root, over c, in squares of smallest values
record Scaled (e : ℤ) : Type 0 where
  k : ℕ
  least : 149 ≤ k
  same : up e * (2 ^ 149 * 2 ^ 149) ≡ 2 ^ k * down e

scaled-at : (e : ℤ) → T (leb (down e) (2 ^ 149)) → Scaled e
scaled-at (pos k) h = record { k = k + 298; least = omega arith; same = sym (mul-one (2 ^ (k + 298)) ∙ pow-add 2 k 298) }
scaled-at (negsuc k) h =
    let b : suc k ≤ 149 = below k (leb→le (2 ^ suc k) (2 ^ 149) h) in
    record { k = 298 - suc k; least = omega arith; same = exact k b }
  where
    below : (i : ℕ) → 2 ^ suc i ≤ 2 ^ 149 → suc i ≤ 149
    below i g = le_of_suc-le-suc (lt_of_not-le (λ (a : 150 ≤ suc i). not-le_of_lt (lt_of_lt_of_le {m = 2 ^ 150} (lit< tt) (pow_mono a)) g))

    exact : (i : ℕ) → suc i ≤ 149 → 1 * (2 ^ 149 * 2 ^ 149) ≡ 2 ^ (298 - suc i) * 2 ^ suc i
    exact i g = let s : 298 - suc i + suc i ≡ 298 = omega arith in sym (ap (λ (x : ℕ). 2 ^ x) s) ∙ pow-add 2 (298 - suc i) (suc i)

-- ---- the library's scale
pow-regroup : (s t j : ℕ) → 2 ^ (2 + s + t) * 2 ^ j ≡ 4 * 2 ^ (s + j) * 2 ^ t
pow-regroup s t j =
    ap (λ (x : ℕ). x * 2 ^ j) (pow-add 2 (2 + s) t ∙ ap (λ (x : ℕ). x * 2 ^ t) (pow-add 2 2 s))
    ∙ mul_right_comm (4 * 2 ^ s) (2 ^ t) (2 ^ j)
    ∙ ap (λ (x : ℕ). x * 2 ^ t) (mul_assoc 4 (2 ^ s) (2 ^ j) ∙ ap (λ (x : ℕ). 4 * x) (sym (pow-add 2 s j)))

square-regroup : (s j : ℕ) → 2 * 2 ^ (s + j) * (2 * 2 ^ (s + j)) ≡ 2 ^ (2 + s + s) * (2 ^ j * 2 ^ j)
square-regroup s j =
    let a : 2 ^ (s + j) ≡ 2 ^ s * 2 ^ j = pow-add 2 s j in
    let b : 2 ^ (2 + s + s) ≡ 4 * 2 ^ s * 2 ^ s = pow-add 2 (2 + s) s ∙ ap (λ (x : ℕ). x * 2 ^ s) (pow-add 2 2 s) in
    let c : (u v : ℕ) → 2 * (u * v) * (2 * (u * v)) ≡ 4 * u * u * (v * v) = λ u v. four u v in
    ap (λ (x : ℕ). 2 * x * (2 * x)) a ∙ c (2 ^ s) (2 ^ j) ∙ sym (ap (λ (x : ℕ). x * (2 ^ j * 2 ^ j)) b)
  where
    four : (u v : ℕ) → 2 * (u * v) * (2 * (u * v)) ≡ 4 * u * u * (v * v)
    four u v = simp (mul_assoc, mul_left_comm) (sym (mul_assoc 2 2 (u * (u * (v * v)))))

-- with S the square of smallest values, P the library's scale and R what is left of it
exact-at : (a c n q S P R M : ℕ) → 0 < c → a * S ≡ n * q * c → P ≡ R * S → M ≡ R * q → a * P / c ≡ n * M
exact-at a c n q S P R M C e p m =
    let s : a * P ≡ n * M * c = ap (λ (x : ℕ). a * x) p ∙ mul_left_comm a R S ∙ ap (λ (x : ℕ). R * x) e ∙ order R n q c
    ∙ ap (λ (x : ℕ). n * x * c) (sym m) in
    ap (λ (x : ℕ). x / c) s ∙ mul-div_cancel (n * M) C
  where
    order : (r x y z : ℕ) → r * (x * y * z) ≡ x * (r * y) * z
    order r x y z = simp (mul_assoc, mul_left_comm)

module _ (m : ℕ) (e : ℤ) (H : T (fits binary32 (fin false (suc m) e))) where
  abbrev w : ℕ
  w = suc m

  abbrev odd-w : Bool
  odd-w = eqb (w % 2) 1

  abbrev narrow : Bool
  narrow = ltb w (2 ^ 24)

  abbrev fine : Bool
  fine = leb (down e) (2 ^ 149)

  abbrev finite : Bool
  finite = ltb (w * up e) (2 ^ 128 * down e)

  held : T (odd-w && narrow && fine && finite)
  unfolding fits
  held = H

  narrow-is : T narrow
  narrow-is = and_r odd-w narrow (and_l (odd-w && narrow) fine (and_l (odd-w && narrow && fine) finite held))

  fine-is : T fine
  fine-is = and_r (odd-w && narrow) fine (and_l (odd-w && narrow && fine) finite held)

  wide : (k : ℕ) → 149 ≤ k → 2 ^ 46 ≤ w * 2 ^ k
  wide k h = le_trans (lit≤ {m = 2 ^ 46} {n = 2 ^ 149} tt)
      (le_trans (pow_mono h) (le_trans (le_of_eq (sym (one-mul (2 ^ k)))) (mul-le-mul_right (2 ^ k) (zero-lt-suc m))))

  positive : sqrt binary32 (fin false (suc m) e) ≡ root binary32 (fin false (suc m) e)
  unfolding sqrt root
  positive =
      let a = w * up e in
      let c = down e in
      let s = scaled-at e fine-is in
      let f = find w s.k 0 (w * 2 ^ s.k) (ltb→lt w (2 ^ 24) narrow-is) (wide s.k s.least) (sym (mul-one (w * 2 ^ s.k))) in
      let n = f.n in
      let j = f.j in
      let q = nearest-of n (lt_of_lt_of_le {m = 2 ^ 46} (lit< tt) f.low) in
      let C : 0 < c = down_pos e in
      let under : a * (2 ^ 149 * 2 ^ 149) ≡ n * (2 ^ j * 2 ^ j) * c =
      mul_assoc w (up e) (2 ^ 149 * 2 ^ 149) ∙ ap (λ (x : ℕ). w * x) s.same ∙ sym (mul_assoc w (2 ^ s.k) c)
      ∙ ap (λ (x : ℕ). x * c) f.same in
      let h = 2 ^ (2121 + j) in
      let theirs : a * 2 ^ 4542 / c ≡ n * (2 * h * (2 * h)) =
      exact-at a c n (2 ^ j * 2 ^ j) (2 ^ 149 * 2 ^ 149) (2 ^ 4542) (2 ^ 4244) (2 * h * (2 * h)) C under refl (square-regroup 2121 j) in
      ap (λ (x : ℕ). round binary32 false x (2 ^ 2272)) (twice-is (a * 2 ^ 4542 / c) ∙ ap halves theirs)
      ∙ rounded-at binary32 n j q.0 h (2 ^ 2272) (pow_pos (2121 + j)) (pow_pos 2272) (pow-regroup 2121 149 j) f.low f.high q.1
      ∙ sym (rounded binary32 a c n j q.0 C under f.low f.high q.1)

zero-at : (s : Bool) (e : ℤ) → T (fits binary32 (fin s 0 e)) → sqrt binary32 (fin s 0 e) ≡ root binary32 (fin s 0 e)
unfolding fits sqrt root
zero-at s (pos zero) h = refl
zero-at s (pos (suc k)) h = absurd (no (2 ^ k) (pow_pos k) (pow-suc 2 k) (eqb→eq (2 ^ suc k * 1) 1 h))
  where
    no : (x : ℕ) → 0 < x → 2 ^ suc k ≡ x * 2 → 2 ^ suc k * 1 ≡ 1 → ⊥
    no x p d e = omega arith
zero-at s (negsuc k) h = absurd (no (2 ^ k) (pow_pos k) (pow-suc 2 k) (eqb→eq (1 * 2 ^ suc k) 1 h))
  where
    no : (x : ℕ) → 0 < x → 2 ^ suc k ≡ x * 2 → 1 * 2 ^ suc k ≡ 1 → ⊥
    no x p d e = omega arith

pub root-is : (x : Float) → T (fits binary32 x) → sqrt binary32 x ≡ root binary32 x
unfolding sqrt root
root-is nan h = refl
root-is (inf true) h = refl
root-is (inf false) h = refl
root-is (fin s zero e) h = zero-at s e h
root-is (fin true (suc m) e) h = refl
root-is (fin false (suc m) e) h = positive m e h
