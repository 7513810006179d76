-- Where `root_of` rounds to: in units of the format's smallest value let the exact root of a / c be that of N, times 2 ^ j, with N from hid
-- * hid up to 4 * hid * hid. Then the result is q * 2 ^ j units, for the q whose midpoints q - 1/2 and q + 1/2 lie on either side of the
-- root of N. Assumes nothing.
use Rattle.std.proofs.Common.{◌≡◌, ℕ, zero, suc, ◌+◌, ◌-◌, ◌*◌, ◌/◌, ◌^◌, ◌<◌, ◌≤◌, false, sym, refl, ap, ◌∙◌, subst, inl, inr, le_trans}
use Rattle.std.proofs.Common.{le_of_eq, lt_of_lt_of_le, lt_of_le_of_lt, le_of_lt, add_assoc, mul-le-mul_right, zero-lt-suc, mul_assoc}
use Rattle.std.proofs.Common.{mul_comm, div-lt_iff_lt-mul, add-mul, add_comm, le_antisymm, eq-or-lt_of_le, mul-lt-mul_of_pos_right, mul-pos}
use Rattle.std.proofs.Common.{one-mul, lt_of_not-le, le-div_iff_mul-le, mul-one, mul-add, not-le_of_lt, mul_left_comm, two-mul, arith}
use Rattle.std.proofs.Common.{pow_pos, pow_mono, pow-add}
use native.Mathlib.Nat.{add_left_comm}
use native.Mathlib.Nat.{pow-succ'}
use lib.Ieee.{Format, prec, low, hid, size, units, round}
use lib.Ieee.Digits.{size-lt, size-le}
use lib.Ieee.Fits.{core, round_is, two}
use lib.Ieee.Nearest.{closest}
use Rattle.binary32.specs.Root.{halves, root_of}
use Rattle.binary32.specs.Inner.{Nearest}
use Rattle.binary32.proofs.Sides.{halves-below, halves-above, halves-exact}
use Rattle.binary32.proofs.Closest.{closest-is}

halves-from : (n h : ℕ) → h * h ≤ n → 2 * h ≤ halves n
halves-from n h l = elim (eq-or-lt_of_le l) [ inl e ↦ le_of_eq (sym (halves-exact n h e)) | inr g ↦ le_of_lt (halves-above n h g) ]

size_is : (n a : ℕ) → 2 ^ a ≤ n → n < 2 ^ suc a → size n ≡ suc a
size_is n a lo hi =
    le_antisymm (size-le n (suc a) hi) (lt_of_not-le (λ (g : size n ≤ a). not-le_of_lt (lt_of_lt_of_le (size-lt n) (pow_mono g)) lo))

-- ---- squares
square-mul : (a b : ℕ) → a * b * (a * b) ≡ a * a * (b * b)
square-mul a b = simp (mul_assoc, mul_left_comm)

square-of-double : (x : ℕ) → 2 * x * (2 * x) ≡ 4 * (x * x)
square-of-double x = let e : 2 * x * (2 * x) ≡ x * x + x * x + (x * x + x * x) = simp (two-mul, mul-add, add-mul, add_assoc) in omega arith

square-of-next : (x : ℕ) → (x + 1) * (x + 1) ≡ x * x + 2 * x + 1
square-of-next x =
    let e : (x + 1) * (x + 1) ≡ x * x + x + (x + 1) = simp (mul-add, add-mul, mul-one, one-mul, add_assoc, add_comm, add_left_comm) in
    omega arith

-- the midpoints, doubled: d = 2 * q - 1 and 2 * q + 1
under-mid : (n q d : ℕ) → d + 1 ≡ 2 * q → q * q < n + q → d * d < 4 * n
under-mid n q d e h =
    let a : (d + 1) * (d + 1) ≡ 4 * (q * q) = ap (λ (x : ℕ). x * x) e ∙ square-of-double q in
    let b = square-of-next d in
    omega arith

over-mid : (n q : ℕ) → n ≤ q * q + q → 4 * n < (2 * q + 1) * (2 * q + 1)
over-mid n q h =
    let a = square-of-double q in
    let b = square-of-next (2 * q) in
    omega arith

-- scaled by H
four-squares : (n H : ℕ) → n * (2 * H * (2 * H)) ≡ 4 * n * (H * H)
four-squares n H = ap (λ (x : ℕ). n * x) (square-of-double H) ∙ sym (mul_assoc n 4 (H * H)) ∙ ap (λ (x : ℕ). x * (H * H)) (mul_comm n 4)

module _ (n q H : ℕ) (P : 0 < H) where
  above : (d : ℕ) → d + 1 ≡ 2 * q → q * q < n + q → 2 * (d * H) < halves (n * (2 * H * (2 * H)))
  above d e h =
      halves-above (n * (2 * H * (2 * H))) (d * H)
      (lt_of_le_of_lt (le_of_eq (square-mul d H))
      (lt_of_lt_of_le (mul-lt-mul_of_pos_right (under-mid n q d e h) (mul-pos P P)) (le_of_eq (sym (four-squares n H)))))

  below : n ≤ q * q + q → halves (n * (2 * H * (2 * H))) < 2 * ((2 * q + 1) * H)
  below h =
      halves-below (n * (2 * H * (2 * H))) ((2 * q + 1) * H)
      (lt_of_le_of_lt (le_of_eq (four-squares n H))
      (lt_of_lt_of_le (mul-lt-mul_of_pos_right (over-mid n q h) (mul-pos P P)) (le_of_eq (sym (square-mul (2 * q + 1) H)))))

  from : (g : ℕ) → g * g ≤ n → 2 * (g * (2 * H)) ≤ halves (n * (2 * H * (2 * H)))
  from g h =
      halves-from (n * (2 * H * (2 * H))) (g * (2 * H)) (le_trans (le_of_eq (square-mul g (2 * H))) (mul-le-mul_right (2 * H * (2 * H)) h))

  upto : (g : ℕ) → n < g * g → halves (n * (2 * H * (2 * H))) < 2 * (g * (2 * H))
  upto g h =
      halves-below (n * (2 * H * (2 * H))) (g * (2 * H))
      (lt_of_lt_of_le (mul-lt-mul_of_pos_right h (mul-pos (pos-double H P) (pos-double H P))) (le_of_eq (sym (square-mul g (2 * H)))))
    where
      pos-double : (x : ℕ) → 0 < x → 0 < 2 * x
      pos-double x p = omega arith

-- ---- the rounding
pos_of : (q n : ℕ) → q * q < n + q → n ≤ q * q + q → 0 < n → 0 < q
pos_of zero n a b c = absurd (no n b c)
  where
    no : (x : ℕ) → x ≤ 0 * 0 + 0 → 0 < x → ⊥
    no x h p = omega arith
pos_of (suc q) n a b c = zero-lt-suc q

double-pred : (q : ℕ) → 0 < q → (2 * q - 1) + 1 ≡ 2 * q
double-pred q h = omega arith

-- The number that is handed to `round` is m over 2 * (c * 2 ^ (L + 1)), and in units of 2 ^ j smallest values it is m / (4 * (c * 2 ^ j)):
-- l stands for 2 ^ L and p for 2 ^ j.
regroup : (c l p : ℕ) → 2 * (c * (2 * l)) * p ≡ 4 * (c * p) * l
regroup c l p =
    let e : 2 * (c * (2 * l)) ≡ 4 * (c * l) = ap (λ (x : ℕ). 2 * x) (mul_left_comm c 2 l) ∙ sym (mul_assoc 2 2 (c * l)) in
    ap (λ (x : ℕ). x * p) e ∙ mul_assoc 4 (c * l) p ∙ ap (λ (x : ℕ). 4 * x)
    (mul_assoc c l p ∙ ap (λ (x : ℕ). c * x) (mul_comm l p) ∙ sym (mul_assoc c p l)) ∙ sym (mul_assoc 4 (c * p) l)

-- what is under the root, with the scale l and the square of 2 * (c * p) in it
scaled : (a c n l p : ℕ) → a * (l * l) ≡ n * (p * p) * c → a * c * (2 * l * (2 * l)) ≡ n * (2 * (c * p) * (2 * (c * p)))
scaled a c n l p e =
    let s : a * c * (2 * l * (2 * l)) ≡ 4 * (a * (l * l) * c) =
    ap (λ (x : ℕ). a * c * x) (square-of-double l) ∙ simp (mul_assoc, mul_comm, mul_left_comm) in
    s ∙ ap (λ (x : ℕ). 4 * (x * c)) e ∙ sym (four-squares n (c * p) ∙ simp (mul_assoc, mul_comm, mul_left_comm))

-- the two midpoints and the two ends, in units of l
module _ (m q H l : ℕ) (L : 0 < l) where
  quarter : 4 * H * l ≡ 4 * (H * l)
  quarter = mul_assoc 4 H l

  times : (k : ℕ) → k * (4 * H * l) ≡ 4 * (k * H * l)
  times k = ap (λ (x : ℕ). k * x) quarter ∙ mul_left_comm k 4 (H * l) ∙ ap (λ (x : ℕ). 4 * x) (sym (mul_assoc k H l))

  lower : (d : ℕ) → d + 1 ≡ 2 * q → 2 * (d * H) < m → 2 * (q * (4 * H * l)) < 2 * (m * l) + 4 * H * l
  lower d e h =
      let a : d * H + H ≡ 2 * (q * H) =
      ap (λ (x : ℕ). d * H + x) (sym (one-mul H)) ∙ sym (add-mul d 1 H) ∙ ap (λ (x : ℕ). x * H) e ∙ mul_assoc 2 q H in
      let b : 4 * (q * H) < m + 2 * H = omega arith in
      let c : 4 * (q * H) * l < (m + 2 * H) * l = mul-lt-mul_of_pos_right b L in
      let d : 4 * (q * H) * l ≡ 4 * (q * H * l) = mul_assoc 4 (q * H) l in
      let e : (m + 2 * H) * l ≡ m * l + 2 * (H * l) = add-mul m (2 * H) l ∙ ap (λ (x : ℕ). m * l + x) (mul_assoc 2 H l) in
      let f = times q in
      let g = quarter in
      omega arith

  upper : m < 2 * ((2 * q + 1) * H) → 2 * (m * l) < 2 * (q * (4 * H * l)) + 4 * H * l
  upper h =
      let a : (2 * q + 1) * H ≡ 2 * (q * H) + H =
      add-mul (2 * q) 1 H ∙ ap (λ (x : ℕ). x + 1 * H) (mul_assoc 2 q H) ∙ ap (λ (x : ℕ). 2 * (q * H) + x) (one-mul H) in
      let b : m < 4 * (q * H) + 2 * H = omega arith in
      let c : m * l < (4 * (q * H) + 2 * H) * l = mul-lt-mul_of_pos_right b L in
      let d : (4 * (q * H) + 2 * H) * l ≡ 4 * (q * H * l) + 2 * (H * l) = add-mul (4 * (q * H)) (2 * H) l
      ∙ ap (λ (x : ℕ). x + 2 * H * l) (mul_assoc 4 (q * H) l) ∙ ap (λ (x : ℕ). 4 * (q * H * l) + x) (mul_assoc 2 H l) in
      let f = times q in
      let g = quarter in
      omega arith

  first : (g : ℕ) → 2 * (g * (2 * H)) ≤ m → g * (4 * H * l) ≤ m * l
  first g h = le_trans (le_of_eq (times g ∙ sym (mul_assoc 4 (g * H) l))) (mul-le-mul_right l (le_trans (le_of_eq (four g)) h))
    where
      four : (x : ℕ) → 4 * (x * H) ≡ 2 * (x * (2 * H))
      four x = let e : x * (2 * H) ≡ 2 * (x * H) = mul_left_comm x 2 H in omega arith

  last : (g : ℕ) → m < 2 * (g * (2 * H)) → m * l < g * (4 * H * l)
  last g h = lt_of_lt_of_le (mul-lt-mul_of_pos_right (lt_of_lt_of_le h (le_of_eq (sym (four g)))) L)
      (le_of_eq (sym (times g ∙ sym (mul_assoc 4 (g * H) l))))
    where
      four : (x : ℕ) → 4 * (x * H) ≡ 2 * (x * (2 * H))
      four x = let e : x * (2 * H) ≡ 2 * (x * H) = mul_left_comm x 2 H in omega arith

pub root_of-is : (f : Format) (a c : ℕ)
    → root_of f a c ≡ round f false (halves (a * c * (2 ^ suc (low f) * 2 ^ suc (low f)))) (2 * (c * 2 ^ suc (low f)))
unfolding root_of
root_of-is f a c = refl

pred-add : (p j : ℕ) → 2 ≤ p → suc (p - 1 + j) - p ≡ j
pred-add p j h = omega arith

-- `round` at the root of n, doubled, with the scale 2 * H in it, over D: that is the root in units of 2 ^ j smallest values
pub rounded-at : (f : Format) (n j q H D : ℕ) → 0 < H → 0 < D → D * 2 ^ j ≡ 4 * H * 2 ^ low f → hid f * hid f ≤ n
    → n < 2 * hid f * (2 * hid f) → Nearest n q → round f false (halves (n * (2 * H * (2 * H)))) D ≡ units f false q j
rounded-at f n j q H D P D-pos s lo hi z =
    let l = 2 ^ low f in
    let p = 2 ^ j in
    let g = hid f in
    let L : 0 < l = pow_pos (low f) in
    let m = halves (n * (2 * H * (2 * H))) in
    let G : 0 < g = pow_pos (prec f - 1) in
    let Q : 0 < q = pos_of q n z.0 z.1 (lt_of_lt_of_le (mul-pos G G) lo) in
    let top : (k : ℕ) → k * p * D ≡ k * (4 * H * l) = λ k. mul_assoc k p D ∙ ap (λ (x : ℕ). k * x) (mul_comm p D ∙ s) in
    let w = prec f - 1 + j in
    let W : 2 ^ w ≡ g * p = pow-add 2 (prec f - 1) j in
    let reaches : 2 ^ w ≤ m * l / D =
    (le-div_iff_mul-le D-pos).1 (le_trans (le_of_eq (ap (λ (x : ℕ). x * D) W ∙ top g)) (first m q H l L g (from n q H P g lo))) in
    let W2 : 2 ^ suc w ≡ 2 * g * p = pow-succ' 2 w ∙ ap (λ (x : ℕ). 2 * x) W ∙ sym (mul_assoc 2 g p) in
    let ends : m * l / D < 2 ^ suc w = (div-lt_iff_lt-mul D-pos).1
    (lt_of_lt_of_le (last m q H l L (2 * g) (upto n q H P (2 * g) hi)) (le_of_eq (sym (ap (λ (x : ℕ). x * D) W2 ∙ top (2 * g))))) in
    let k : size (m * l / D) - prec f ≡ j = ap (λ (x : ℕ). x - prec f) (size_is (m * l / D) w reaches ends) ∙ pred-add (prec f) j (two f) in
    let d : (2 * q - 1) + 1 ≡ 2 * q = double-pred q Q in
    let near : closest (m * l) (D * p) ≡ q =
    ap (λ (x : ℕ). closest (m * l) x) s
    ∙ closest-is (m * l) (4 * H * l) q (subst (λ (x : ℕ). 0 < x) s (mul-pos D-pos (pow_pos j)))
    (lower m q H l L (2 * q - 1) d (above n q H P (2 * q - 1) d z.0)) (upper m q H l L (below n q H P z.1)) in
    round_is f false m D
    ∙ ap (λ (i : ℕ). core f false (m * l) D i) k
    ∙ ap (λ (x : ℕ). units f false x j) near

pub rounded : (f : Format) (a c n j q : ℕ) → 0 < c → a * (2 ^ low f * 2 ^ low f) ≡ n * (2 ^ j * 2 ^ j) * c → hid f * hid f ≤ n
    → n < 2 * hid f * (2 * hid f) → Nearest n q
    → root_of f a c ≡ units f false q j
rounded f a c n j q C e lo hi z =
    let l = 2 ^ low f in
    let p = 2 ^ j in
    let D = 2 * (c * (2 * l)) in
    let L : 0 < l = pow_pos (low f) in
    root_of-is f a c
    ∙ ap (λ (h : ℕ). round f false (halves (a * c * (h * h))) (2 * (c * h))) (pow-succ' 2 (low f))
    ∙ ap (λ (x : ℕ). round f false (halves x) D) (scaled a c n l p e)
    ∙ rounded-at f n j q (c * p) D (mul-pos C (pow_pos j)) (mul-pos (zero-lt-suc 1) (mul-pos C (mul-pos (zero-lt-suc 1) L)))
    (regroup c l p) lo hi z
