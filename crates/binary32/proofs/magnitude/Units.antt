-- binary32 in whole units of its smallest value, 2 ^ -149: what a sum of two values is in units, and how far the rounding of a number of
-- units can move it. Assumes nothing.
use Rattle.std.proofs.Common.{◌≡◌, ℕ, suc, ◌+◌, ◌-◌, ◌*◌, ◌/◌, ◌%◌, ◌^◌, ◌<◌, ◌≤◌, Bool, true, false, cond, not, ◌&&◌, T, ltb, sym, refl}
use Rattle.std.proofs.Common.{ap, ◌∙◌, subst, ap₂, inl, inr, le_trans, le_of_eq, lt_of_lt_of_le, lt_of_le_of_lt, le_of_lt, mul-le-mul_right}
use Rattle.std.proofs.Common.{mul_assoc, mul_comm, add-mul, lt_of_mul-lt-mul_right, eq-or-lt_of_le, mul-lt-mul_of_pos_right, mul-pos}
use Rattle.std.proofs.Common.{one-mul, div-add-mod', mul_right_comm, mul-div_cancel, arith, lit≤, eqb→eq, ltb→lt, lt→ltb, pow_pos, pow_mono}
use Rattle.std.proofs.Common.{pow-add}
use Prim.Native.Nat.{compare, Ordering}
use native.Mathlib.Nat.{pow-succ', mul-sub}
use mathlib.Core.Bool.{beq}
use lib.Dec.{is_le, compare_is_eq, nleb→lt}
use lib.Ieee.{Float, nan, inf, fin, Format, binary32, up, down, size, nearest, round, sum, add}
use lib.Ieee.Digits.{size-le}
use lib.Ieee.Fits.{down_pos, nearest-le}
use lib.Ieee.Nearest.{closest, closest_same}
use lib.Ieee.Exact.{HasValue}
use lib.Ieee.Order.{drop}
use lib.Ieee.Scale.{grid, overflow, grid_scale, round_same, finite}
use Rattle.binary32.proofs.magnitude.Round.{grid-le}

-- ---- rounding to a whole number moves a fraction by a half at most
step-up : (q r u z : ℕ) → q * u + r ≡ z → u ≤ r * 2 → 2 * (suc q * u) ≤ 2 * z + u
step-up q r u z e h = let k : suc q * u ≡ q * u + u = native.Mathlib.Nat.suc-mul q u in omega arith

stay : (q r u z : ℕ) → q * u + r ≡ z → 2 * (q * u) ≤ 2 * z + u
stay q r u z e = omega arith

up_to : (a b u c : ℕ) → a ≤ b → 2 * (b * u) ≤ c → 2 * (a * u) ≤ c
up_to a b u c h k = let l : a * u ≤ b * u = mul-le-mul_right u h in omega arith

near : (z u : ℕ) → 2 * (closest z u * u) ≤ 2 * z + u
near z u = go (compare (z % u * 2) u) (nleb→lt (z % u * 2) u) (eqb→eq (z % u * 2) u)
  where
    go : (o : Ordering) → (T (not (is_le o)) → u < z % u * 2) → (T (compare_is_eq o) → z % u * 2 ≡ u)
        → 2 * (nearest (z / u) o * u) ≤ 2 * z + u
    go Ordering.lt h e = stay (z / u) (z % u) u z (div-add-mod' z u)
    go Ordering.eq h e = up_to (z / u + z / u % 2) (suc (z / u)) u (2 * z + u) (nearest-le (z / u) Ordering.eq)
        (step-up (z / u) (z % u) u z (div-add-mod' z u) (le_of_eq (sym (e tt))))
    go Ordering.gt h e = step-up (z / u) (z % u) u z (div-add-mod' z u) (le_of_lt (h tt))

-- ---- a number of units, rounded
abbrev pub fl : ℕ → ℕ
fl z = grid binary32 z (2 ^ 149)

-- its last place: 2 ^ places z
abbrev places : ℕ → ℕ
places z = drop 24 (z * 2 ^ 149) (2 ^ 149)

fl-is : (z : ℕ) → fl z ≡ closest z (2 ^ places z) * 2 ^ places z
fl-is z =
    let d = places z in
    ap (λ (q : ℕ). q * 2 ^ d)
    (closest_same (z * 2 ^ 149) (2 ^ 149 * 2 ^ d) z (2 ^ d) (mul-pos (pow_pos 149) (pow_pos d)) (pow_pos d) (mul_assoc z (2 ^ 149) (2 ^ d)))

few : (s j : ℕ) → s ≤ 25 + j → s - 24 ≤ suc j
few s j h = omega arith

places-le : (z j : ℕ) → z < 2 ^ (25 + j) → places z ≤ suc j
places-le z j h = few (size (z * 2 ^ 149 / 2 ^ 149)) j
    (size-le (z * 2 ^ 149 / 2 ^ 149) (25 + j) (subst (λ (x : ℕ). x < 2 ^ (25 + j)) (sym (mul-div_cancel z (pow_pos 149))) h))

halve : (a z u p : ℕ) → 2 * a ≤ 2 * z + u → u ≤ 2 * p → a ≤ z + p
halve a z u p h k = omega arith

fl-near-lt : (z j : ℕ) → z < 2 ^ (25 + j) → fl z ≤ z + 2 ^ j
fl-near-lt z j h =
    let d = places z in
    halve (fl z) z (2 ^ d) (2 ^ j) (subst (λ (x : ℕ). 2 * x ≤ 2 * z + 2 ^ d) (sym (fl-is z)) (near z (2 ^ d)))
    (le_trans (pow_mono (places-le z j h)) (le_of_eq (pow-succ' 2 j)))

-- 2 ^ 24 at the place t, and one unit of that place more: both round to 2 ^ 24 at that place
whole-at : (t : ℕ) → fl (2 ^ 24 * 2 ^ t) ≡ 2 ^ 24 * 2 ^ t
unfolding size
whole-at t = grid_scale binary32 (2 ^ 24) (2 ^ 149) t (pow_pos 149) (lit≤ tt)

tie-at : (t : ℕ) → fl ((2 ^ 24 + 1) * 2 ^ t) ≡ 2 ^ 24 * 2 ^ t
unfolding size
tie-at t = grid_scale binary32 (2 ^ 24 + 1) (2 ^ 149) t (pow_pos 149) (lit≤ tt)

top-is : (j : ℕ) → 2 ^ (25 + j) ≡ 2 ^ 24 * 2 ^ suc j
top-is j = ap (λ (x : ℕ). 2 ^ x) (shift j) ∙ pow-add 2 24 (suc j)
  where
    shift : (j : ℕ) → 25 + j ≡ 24 + suc j
    shift j = omega arith

-- up to 2 ^ (25 + j) units rounding adds 2 ^ j at most
pub fl-near : (z j : ℕ) → z ≤ 2 ^ (25 + j) → fl z ≤ z + 2 ^ j
fl-near z j h =
    elim (eq-or-lt_of_le h) [
      | inl e ↦ subst (λ (x : ℕ). fl x ≤ x + 2 ^ j) (sym (e ∙ top-is j))
          (le_trans (le_of_eq (whole-at (suc j))) (native.Mathlib.Nat.le-add_right (2 ^ 24 * 2 ^ suc j) (2 ^ j)))
      | inr l ↦ fl-near-lt z j l
    ]

-- fl keeps the order, below the overflow
pub fl-mono : (a c : ℕ) → a ≤ c → T (finite (round binary32 false c (2 ^ 149))) → (fl a ≤ fl c) × (fl a < overflow binary32)
fl-mono a c h t = grid-le binary32 a (2 ^ 149) c (2 ^ 149) (pow_pos 149) (pow_pos 149) (mul-le-mul_right (2 ^ 149) h) t

tie-is : (j : ℕ) → 2 ^ (24 + j) + 2 ^ j ≡ (2 ^ 24 + 1) * 2 ^ j
tie-is j = ap₂ ◌+◌ (pow-add 2 24 j) (sym (one-mul (2 ^ j))) ∙ sym (add-mul (2 ^ 24) 1 (2 ^ j))

-- what exceeds 2 ^ (24 + j) units by 2 ^ j at most, half the distance to the next value, rounds back to it
pub fl-back : (z j : ℕ) → z ≤ 2 ^ (24 + j) + 2 ^ j → T (finite (round binary32 false (2 ^ (24 + j) + 2 ^ j) (2 ^ 149)))
    → (fl z ≤ 2 ^ (24 + j)) × (fl z < overflow binary32)
fl-back z j h t =
    let m = fl-mono z (2 ^ (24 + j) + 2 ^ j) h t in
    (le_trans m.0 (le_of_eq (ap (λ (x : ℕ). fl x) (tie-is j) ∙ tie-at j ∙ sym (pow-add 2 24 j))), m.1)

-- ---- a sum in units
-- a / c is a' / c', so the tests and the rounded results agree
pub by_tests : (p q : Bool) → (T p → T q) → (T q → T p) → p ≡ q
by_tests true true f g = refl
by_tests true false f g = absurd (f tt)
by_tests false true f g = absurd (g tt)
by_tests false false f g = refl

scaled-lt : (a b c a' b' c' : ℕ) → 0 < c → a * c' ≡ a' * c → b * c' ≡ b' * c → a' < b' → a < b
scaled-lt a b c a' b' c' C p q h =
    lt_of_mul-lt-mul_right c' (lt_of_le_of_lt (le_of_eq p) (lt_of_lt_of_le (mul-lt-mul_of_pos_right h C) (le_of_eq (sym q))))

same_test : (a b c a' b' c' : ℕ) → 0 < c → 0 < c' → a * c' ≡ a' * c → b * c' ≡ b' * c → ltb a b ≡ ltb a' b'
same_test a b c a' b' c' C C' p q =
    by_tests (ltb a b) (ltb a' b')
    (λ t. lt→ltb a' b' (scaled-lt a' b' c' a b c C' (sym p) (sym q) (ltb→lt a b t)))
    (λ t. lt→ltb a b (scaled-lt a b c a' b' c' C p q (ltb→lt a' b' t)))

less-scaled : (a b c a' b' c' : ℕ) → a * c' ≡ a' * c → b * c' ≡ b' * c → (a - b) * c' ≡ (a' - b') * c
less-scaled a b c a' b' c' p q =
    mul_comm (a - b) c' ∙ mul-sub c' a b ∙ ap₂ ◌-◌ (mul_comm c' a ∙ p ∙ mul_comm a' c) (mul_comm c' b ∙ q ∙ mul_comm b' c)
    ∙ sym (mul-sub c a' b') ∙ mul_comm c (a' - b')

sum_same : (f : Format) (s : Bool) (a : ℕ) (t : Bool) (b c a' b' c' : ℕ) → 0 < c → 0 < c' → a * c' ≡ a' * c → b * c' ≡ b' * c
    → sum f s a t b c ≡ sum f s a' t b' c'
unfolding sum
sum_same f s a t b c a' b' c' C C' p q =
    let x : round f s (a + b) c ≡ round f s (a' + b') c' =
    round_same f s (a + b) c (a' + b') c' C C' (add-mul a b c' ∙ ap₂ ◌+◌ p q ∙ sym (add-mul a' b' c)) in
    let y : round f t (b - a) c ≡ round f t (b' - a') c' = round_same f t (b - a) c (b' - a') c' C C' (less-scaled b a c b' a' c' q p) in
    let z : round f (s && ltb b a) (a - b) c ≡ round f (s && ltb b' a') (a' - b') c' =
    ap (λ (v : Bool). round f (s && v) (a - b) c) (same_test b a c b' a' c' C C' q p)
    ∙ round_same f (s && ltb b' a') (a - b) c (a' - b') c' C C' (less-scaled a b c a' b' c' p q) in
    let u : ltb a b ≡ ltb a' b' = same_test a b c a' b' c' C C' p q in
    λ i. cond (beq s t) (x i) (cond (u i) (y i) (z i))

pub add-units : (f : Format) (x y : Float) (s t : Bool) (a b c : ℕ) → 0 < c → HasValue x s a c → HasValue y t b c
    → add f x y ≡ sum f s a t b c
unfolding add
add-units f nan y s t a b c C h k = absurd h
add-units f (inf u) y s t a b c C h k = absurd h
add-units f (fin u m e) nan s t a b c C h k = absurd k
add-units f (fin u m e) (inf v) s t a b c C h k = absurd k
add-units f (fin u m e) (fin v n d) s t a b c C h k =
    sum_same f u (m * up e * down d) v (n * up d * down e) (down e * down d) a b c (mul-pos (down_pos e) (down_pos d)) C
    (mul_right_comm (m * up e) (down d) c ∙ ap (λ (z : ℕ). z * down d) h.1 ∙ mul_assoc a (down e) (down d))
    (mul_right_comm (n * up d) (down e) c ∙ ap (λ (z : ℕ). z * down e) k.1 ∙ mul_assoc b (down d) (down e)
    ∙ ap (λ (z : ℕ). b * z) (mul_comm (down d) (down e)))
    ∙ ap₂ (λ (p q : Bool). sum f p a q b c) h.0 k.0
