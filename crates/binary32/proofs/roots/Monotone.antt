-- The root keeps the order: where the root of x is less than that of y, x is less than y. So of two squares only the lesser can have the
-- lesser root, and a search for the least root need not take any. For every two values that the format holds, zeros, infinities and NaNs
-- included. Assumes nothing.
use Rattle.std.proofs.Common.{◌≡◌, ℕ, zero, suc, ◌+◌, ◌-◌, ◌*◌, ◌/◌, ◌%◌, ◌^◌, ◌<◌, ◌≤◌, Bool, true, false, cond, not, ◌&&◌, T, eqb, ltb}
use Rattle.std.proofs.Common.{leb, ℤ, pos, negsuc, sym, refl, ap, ◌∙◌, subst, inl, inr, le_trans, le_of_eq, lt_of_lt_of_le}
use Rattle.std.proofs.Common.{le_of_suc-le-suc, lt_of_le_of_lt, mul-le-mul_right, zero-lt-suc, mul_assoc, mul_comm, eq-zero-or-pos}
use Rattle.std.proofs.Common.{lt_of_mul-lt-mul_right, eq-or-lt_of_le, mul-lt-mul_of_pos_right, mul-pos, lt_of_not-le, zero-mul, mul-one}
use Rattle.std.proofs.Common.{mul_right_comm, not-le_of_lt, mul-div_cancel, mul_left_comm, arith, lit<, ltb→lt, lt→ltb, leb→le, pow_pos}
use Rattle.std.proofs.Common.{pow-add}
use native.Mathlib.Nat.{eq_of_mul-eq-mul_right}
use mathlib.Core.Bool.{false≢true}
use lib.Pow.{pow-lt}
use lib.Ieee.{Float, nan, inf, fin, Format, binary32, binary64, prec, emax, low, up, down, size, odd, round, sum, add, mul, lt, le, fits}
use lib.Ieee.{to_bits, of_bits, hid}
use lib.Ieee.Fits.{up_pos, down_pos, and_l, and_r, round_is}
use lib.Ieee.Nearest.{closest}
use lib.Ieee.Bits.{of_bits-to_bits}
use lib.Ieee.Exact.{HasValue}
use lib.Ieee.Order.{le_of_values}
use lib.Ieee.Scale.{overflow}
use lib.Ieee.Positive.{num, den, den_pos, positive, value→cross, value_pos, positive_of_value}
use Rattle.binary32.specs.Root.{root, root_of}
use Rattle.binary32.specs.Nearest.{NoneNearer}
use Rattle.binary32.proofs.Nearest.{root-positive, root_of-fits, root-nearest, root-finite, value-one}
use Rattle.binary32.proofs.roots.Order.{lt_irrefl as less-irrefl, le-lt}

-- ---- a value that the format holds, in units of its smallest: m * 2 ^ i with m below 2 ^ prec
pub record Units (f : Format) (x : Float) : Type 0 where
  pub m : ℕ
  pub i : ℕ
  pub few : m < 2 ^ prec f
  pub value : HasValue x false (m * 2 ^ i) (2 ^ low f)
  pub under : m * 2 ^ i < overflow f

exponent : (a b : ℕ) → 2 ^ a ≤ 2 ^ b → a ≤ b
exponent a b h = le_of_suc-le-suc (lt_of_not-le (λ (g : suc b ≤ a). not-le_of_lt (pow-lt g) h))

rest : (a b : ℕ) → a ≤ b → b - a + a ≡ b
rest a b h = omega arith

-- in units it is X where X * d is the size times 2 ^ low, and below the overflow since the size is below 2 ^ (emax + 1)
below-overflow : (y d l o X : ℕ) → 0 < l → y * l ≡ X * d → y < o * d → X < l * o
below-overflow y d l o X L e h =
    let a : y * l < o * d * l = mul-lt-mul_of_pos_right h L in
    let b : o * d * l ≡ l * o * d = simp (mul_assoc, mul_comm, mul_left_comm) in
    lt_of_mul-lt-mul_right d (lt_of_le_of_lt (le_of_eq (sym e)) (lt_of_lt_of_le a (le_of_eq b)))

pub units : (f : Format) (x : Float) → T (fits f x) → T (positive x) → Units f x
unfolding fits
units f nan t p = absurd p
units f (inf s) t p = absurd p
units f (fin true m e) t p = absurd p
units f (fin false zero e) t p = absurd p
units f (fin false (suc m) e) t p =
    let a : Bool = eqb (suc m % 2) 1 in
    let b : Bool = ltb (suc m) (2 ^ prec f) in
    let c : Bool = leb (down e) (2 ^ low f) in
    let d : Bool = ltb (suc m * up e) (2 ^ suc (emax f) * down e) in
    at e
    (ltb→lt (suc m) (2 ^ prec f) (and_r a b (and_l (a && b) c (and_l (a && b && c) d t))))
    (leb→le (down e) (2 ^ low f) (and_r (a && b) c (and_l (a && b && c) d t)))
    (ltb→lt (suc m * up e) (2 ^ suc (emax f) * down e) (and_r (a && b && c) d t))
  where
    at : (e : ℤ) → suc m < 2 ^ prec f → down e ≤ 2 ^ low f → suc m * up e < 2 ^ suc (emax f) * down e → Units f (fin false (suc m) e)
    at (pos k) few g u =
        let v : suc m * 2 ^ k * 2 ^ low f ≡ suc m * 2 ^ (k + low f) * 1 =
        mul_assoc (suc m) (2 ^ k) (2 ^ low f) ∙ ap (λ (z : ℕ). suc m * z) (sym (pow-add 2 k (low f)))
        ∙ sym (mul-one (suc m * 2 ^ (k + low f))) in
        record {
          m = suc m;
          i = k + low f;
          few = few;
          value = (refl, v);
          under = lt_of_lt_of_le (below-overflow (suc m * 2 ^ k) 1 (2 ^ low f) (2 ^ suc (emax f)) (suc m * 2 ^ (k + low f))
              (pow_pos (low f)) v u) (le_of_eq (sym (pow-add 2 (low f) (suc (emax f)))));
        }
    at (negsuc k) few g u =
        let j = low f - suc k in
        let v : suc m * 1 * 2 ^ low f ≡ suc m * 2 ^ j * 2 ^ suc k =
        ap (λ (z : ℕ). z * 2 ^ low f) (mul-one (suc m))
        ∙ ap (λ (z : ℕ). suc m * 2 ^ z) (sym (rest (suc k) (low f) (exponent (suc k) (low f) g)))
        ∙ ap (λ (z : ℕ). suc m * z) (pow-add 2 j (suc k)) ∙ sym (mul_assoc (suc m) (2 ^ j) (2 ^ suc k)) in
        record {
          m = suc m;
          i = j;
          few = few;
          value = (refl, v);
          under = lt_of_lt_of_le (below-overflow (suc m * 1) (2 ^ suc k) (2 ^ low f) (2 ^ suc (emax f)) (suc m * 2 ^ j)
              (pow_pos (low f)) v u) (le_of_eq (sym (pow-add 2 (low f) (suc (emax f)))));
        }

-- ---- the same for a result, of which some number of units is known
pub record Digits (f : Format) (R : ℕ) : Type 0 where
  pub m : ℕ
  pub i : ℕ
  pub few : m < 2 ^ prec f
  pub is : m * 2 ^ i ≡ R

pub digits : (f : Format) (x : Float) (R : ℕ) → T (fits f x) → HasValue x false R (2 ^ low f) → Digits f R
digits f x R t v =
    elim (eq-zero-or-pos R) [
      | inl z ↦ record { m = 0; i = 0; few = pow_pos (prec f); is = sym z }
      | inr p ↦
          let u = units f x t (positive_of_value x R (2 ^ low f) v p) in
          record { m = u.m; i = u.i; few = u.few; is = value-one x (u.m * 2 ^ u.i) R (2 ^ low f) u.value v }
    ]

root-fits : (f : Format) (x : Float) → T (positive x) → T (fits f (root f x))
root-fits f x p = subst (λ (z : Float). T (fits f z)) (sym (root-positive f x p)) (root_of-fits f (num x) (den x))

-- ---- two values above zero, X and Y units with X < Y: the roots, R and S units, are in that order
squeeze : (X Y l s : ℕ) → 0 < l → 4 * (Y * l) ≤ s → s ≤ 4 * (X * l) → X < Y → ⊥
squeeze X Y l s L a b h =
    let c : X * l < Y * l = mul-lt-mul_of_pos_right h L in
    omega arith

ordered : (f : Format) (X Y R S : ℕ) → NoneNearer f X R → NoneNearer f Y S → Digits f R → Digits f S → X < Y → R ≤ S
ordered f X Y R S p q r s h = le_of_suc-le-suc (lt_of_not-le no)
  where
    no : suc S ≤ R → ⊥
    no g =
        let l = 2 ^ low f in
        let a : (R + S) * (R + S) ≤ 4 * (X * l) =
        subst (λ (z : ℕ). z < R → (R + z) * (R + z) ≤ 4 * (X * l)) s.is (p.below s.m s.i s.few) g in
        let b : 4 * (Y * l) ≤ (S + R) * (S + R) =
        subst (λ (z : ℕ). S < z → 4 * (Y * l) ≤ (S + z) * (S + z)) r.is (q.above r.m r.i r.few) g in
        let c : (S + R) * (S + R) ≡ (R + S) * (R + S) = ap (λ (z : ℕ). z * z) (native.Mathlib.Nat.add_comm S R) in
        squeeze X Y l ((R + S) * (R + S)) (pow_pos (low f)) (le_trans b (le_of_eq c)) a h

pub roots-ordered : (f : Format) (x y : Float) (p : T (fits f x)) (q : T (fits f y)) (P : T (positive x)) (Q : T (positive y))
    → (units f x p P).m * 2 ^ (units f x p P).i < (units f y q Q).m * 2 ^ (units f y q Q).i → T (le (root f x) (root f y))
roots-ordered f x y p q P Q h =
    let u = units f x p P in
    let w = units f y q Q in
    let X = u.m * 2 ^ u.i in
    let Y = w.m * 2 ^ w.i in
    let l = 2 ^ low f in
    let A : 0 < X = value_pos x X l P (pow_pos (low f)) u.value in
    let B : 0 < Y = value_pos y Y l Q (pow_pos (low f)) w.value in
    let r = root-finite f x X A u.value u.under in
    let s = root-finite f y Y B w.value w.under in
    le_of_values (root f x) (root f y) r.0 l s.0 l (pow_pos (low f)) (pow_pos (low f)) r.1 s.1
    (mul-le-mul_right l
    (ordered f X Y r.0 s.0 (root-nearest f x X r.0 A u.value r.1) (root-nearest f y Y s.0 B w.value s.1)
    (digits f (root f x) r.0 (root-fits f x P) r.1) (digits f (root f y) s.0 (root-fits f y Q) s.1) h))

-- ---- values of the format of as many units are the same value
pattern : (f : Format) → ℕ → ℕ
pattern f n = 0 + (size n - prec f) * hid f + n / 2 ^ (size n - prec f)

bits : (f : Format) (x : Float) (X : ℕ) → HasValue x false X (2 ^ low f) → to_bits f x ≡ pattern f X
unfolding to_bits pattern
bits f nan X v = absurd v
bits f (inf s) X v = absurd v
bits f (fin true m e) X v = absurd (no v.0)
  where
    no : true ≡ false → ⊥
    no e = subst (λ (b : Bool). T b) e tt
bits f (fin false m e) X v =
    let n : m * up e * 2 ^ low f / down e ≡ X = ap (λ (z : ℕ). z / down e) v.1 ∙ mul-div_cancel X (down_pos e) in
    ap (λ (z : ℕ). 0 + (size z - prec f) * hid f + z / 2 ^ (size z - prec f)) n

pub same-value : (f : Format) (x y : Float) (X Y : ℕ) → T (fits f x) → T (fits f y) → HasValue x false X (2 ^ low f)
    → HasValue y false Y (2 ^ low f) → X ≡ Y → x ≡ y
same-value f x y X Y p q u w e =
    sym (of_bits-to_bits f x p) ∙ ap (λ (b : ℕ). of_bits f b) (bits f x X u ∙ ap (λ (z : ℕ). pattern f z) e ∙ sym (bits f y Y w))
    ∙ of_bits-to_bits f y q

-- ---- the law, for every two values that the format holds
yes : {b : Bool} → T b → b ≡ true
yes {b = true} t = refl
yes {b = false} t = absurd t

-- what is less than itself, or less than what it is at least, is nothing
not_back : (x y : Float) → T (le y x) → lt x y ≡ true → ⊥
not_back x y h k = absurd (false≢true (sym (less-irrefl y) ∙ le-lt y x y (yes h) k))

not-self : (x y : Float) → x ≡ y → lt x y ≡ true → ⊥
not-self x y e k = absurd (false≢true (sym (less-irrefl y) ∙ subst (λ (z : Float). lt z y ≡ true) e k))

crosses : (a c b d X Y l : ℕ) → 0 < c → 0 < d → a * l ≡ X * c → b * l ≡ Y * d → X < Y → a * d < b * c
crosses a c b d X Y l C D e g h =
    let s : X * (c * d) < Y * (c * d) = mul-lt-mul_of_pos_right h (mul-pos C D) in
    let t : a * d * l ≡ X * (c * d) = mul_right_comm a d l ∙ ap (λ (z : ℕ). z * d) e ∙ mul_assoc X c d in
    let v : b * c * l ≡ Y * (c * d) =
    mul_right_comm b c l ∙ ap (λ (z : ℕ). z * c) g ∙ mul_assoc Y d c ∙ ap (λ (z : ℕ). Y * z) (mul_comm d c) in
    lt_of_mul-lt-mul_right l (lt_of_le_of_lt (le_of_eq t) (lt_of_lt_of_le s (le_of_eq (sym v))))

above : (f : Format) (x y : Float) → T (fits f x) → T (fits f y) → T (positive x) → T (positive y) → lt (root f x) (root f y) ≡ true
    → num x * den y < num y * den x
above f x y p q P Q k =
    let u = units f x p P in
    let w = units f y q Q in
    let X = u.m * 2 ^ u.i in
    let Y = w.m * 2 ^ w.i in
    let l = 2 ^ low f in
    let less : X < Y = lt_of_not-le (λ (g : Y ≤ X). elim (eq-or-lt_of_le g) [
      | inl e ↦ not-self (root f x) (root f y) (ap (root f) (same-value f x y X Y p q u.value w.value (sym e))) k
      | inr s ↦ not_back (root f x) (root f y) (roots-ordered f y x q p Q P s) k
    ]) in
    crosses (num x) (den x) (num y) (den y) X Y l (den_pos x) (den_pos y) (value→cross x X l u.value) (value→cross y Y l w.value) less

-- nothing is less than a NaN
no_nan : (x : Float) → lt x nan ≡ true → ⊥
unfolding lt
no_nan nan k = absurd (false≢true k)
no_nan (inf s) k = absurd (false≢true k)
no_nan (fin s m e) k = absurd (false≢true k)

nothing : (a b : ℕ) → ltb a (0 * b) ≡ true → ⊥
nothing a b e = let h : a < 0 * b = ltb→lt a (0 * b) (subst (λ (z : Bool). T z) (sym e) tt) in let g : 0 * b ≡ 0 = zero-mul b in omega arith

-- what is some number of units, and not below zero, is no less than a zero
from_zero : (f : Format) (z : Float) (t : Bool) (d : ℤ) (R : ℕ) → HasValue z false R (2 ^ low f) → lt z (fin t zero d) ≡ true → ⊥
unfolding lt
from_zero f nan t d R v k = absurd v
from_zero f (inf s) t d R v k = absurd v
from_zero f (fin true m e) t d R v k = absurd (false≢true (sym v.0))
from_zero f (fin false m e) true d R v k = absurd (false≢true k)
from_zero f (fin false m e) false d R v k =
    nothing (m * up e * down d) (down e) (subst (λ (z : ℕ). ltb (m * up e * down d) (z * down e) ≡ true) (zero-mul (up d)) k)

-- the root of a value above zero is no less than a zero
not-under-zero : (f : Format) (x : Float) (t : Bool) (d : ℤ) → T (fits f x) → T (positive x) → lt (root f x) (fin t zero d) ≡ true → ⊥
not-under-zero f x t d p P k =
    let u = units f x p P in
    let X = u.m * 2 ^ u.i in
    let r = root-finite f x X (value_pos x X (2 ^ low f) P (pow_pos (low f)) u.value) u.value u.under in
    from_zero f (root f x) t d r.0 r.1 k

zero-less : (s : Bool) (e : ℤ) (n : ℕ) (d : ℤ) → lt (fin s zero e) (fin false (suc n) d) ≡ true
unfolding lt
zero-less true e n d = yes (lt→ltb 0 (0 * up e * down d + suc n * up d * down e)
    (more (0 * up e * down d) (suc n * up d * down e) (mul-pos (mul-pos (zero-lt-suc n) (up_pos d)) (down_pos e))))
  where
    more : (a b : ℕ) → 0 < b → 0 < a + b
    more a b h = omega arith
zero-less false e n d =
    yes (lt→ltb (0 * up e * down d) (suc n * up d * down e) (lt_of_le_of_lt (le_of_eq
    (ap (λ (z : ℕ). z * down d) (zero-mul (up e)) ∙ zero-mul (down d))) (mul-pos (mul-pos (zero-lt-suc n) (up_pos d)) (down_pos e))))

-- Where the root of x is less than that of y, x is less than y.
pub root-less : (f : Format) (x y : Float) → T (fits f x) → T (fits f y) → lt (root f x) (root f y) ≡ true → lt x y ≡ true
unfolding root lt
root-less f nan y p q k = absurd (false≢true k)
root-less f (inf true) y p q k = absurd (false≢true k)
root-less f (inf false) nan p q k = absurd (false≢true k)
root-less f (inf false) (inf true) p q k = absurd (false≢true k)
root-less f (inf false) (inf false) p q k = absurd (false≢true k)
root-less f (inf false) (fin t zero d) p q k = absurd (false≢true k)
root-less f (inf false) (fin true (suc n) d) p q k = absurd (false≢true k)
root-less f (inf false) (fin false (suc n) d) p q k = absurd (inf-first (root_of f (suc n * up d) (down d)) k)
  where
    inf-first : (z : Float) → lt (inf false) z ≡ true → ⊥
    inf-first nan k = absurd (false≢true k)
    inf-first (inf s) k = absurd (false≢true k)
    inf-first (fin s m e) k = absurd (false≢true k)
root-less f (fin true (suc m) e) y p q k = absurd (false≢true k)
root-less f (fin s zero e) nan p q k = absurd (false≢true k)
root-less f (fin s zero e) (inf true) p q k = absurd (false≢true k)
root-less f (fin s zero e) (inf false) p q k = refl
root-less f (fin s zero e) (fin t zero d) p q k = k
root-less f (fin s zero e) (fin true (suc n) d) p q k = absurd (false≢true k)
root-less f (fin s zero e) (fin false (suc n) d) p q k = zero-less s e n d
root-less f (fin false (suc m) e) nan p q k = absurd (no_nan (root_of f (suc m * up e) (down e)) k)
root-less f (fin false (suc m) e) (inf true) p q k = absurd (no_nan (root_of f (suc m * up e) (down e)) k)
root-less f (fin false (suc m) e) (inf false) p q k = refl
root-less f (fin false (suc m) e) (fin t zero d) p q k =
    absurd (not-under-zero f (fin false (suc m) e) t d p (lt→ltb 0 (suc m) (zero-lt-suc m)) k)
root-less f (fin false (suc m) e) (fin true (suc n) d) p q k = absurd (no_nan (root_of f (suc m * up e) (down e)) k)
root-less f (fin false (suc m) e) (fin false (suc n) d) p q k =
    yes (lt→ltb (suc m * up e * down d) (suc n * up d * down e)
    (above f (fin false (suc m) e) (fin false (suc n) d) p q (lt→ltb 0 (suc m) (zero-lt-suc m)) (lt→ltb 0 (suc n) (zero-lt-suc n)) k))

-- two values of R and S units
less-of-values : (x y : Float) (R S l : ℕ) → 0 < l → HasValue x false R l → HasValue y false S l → R < S → lt x y ≡ true
unfolding lt
less-of-values nan y R S l L u w h = absurd u
less-of-values (inf s) y R S l L u w h = absurd u
less-of-values (fin true m e) y R S l L u w h = absurd (false≢true (sym u.0))
less-of-values (fin false m e) nan R S l L u w h = absurd w
less-of-values (fin false m e) (inf t) R S l L u w h = absurd w
less-of-values (fin false m e) (fin true n d) R S l L u w h = absurd (false≢true (sym w.0))
less-of-values (fin false m e) (fin false n d) R S l L u w h =
    yes (lt→ltb (m * up e * down d) (n * up d * down e)
    (crosses (m * up e) (down e) (n * up d) (down d) R S l (down_pos e) (down_pos d) u.1 w.1 h))

-- the root of y units is some units: there is a value, one unit, that lies nearer than none
some : (f : Format) (Y : ℕ) → 0 < Y → NoneNearer f Y 0 → ⊥
some f Y B n =
    let a : 4 * (Y * 2 ^ low f) ≤ (0 + 1 * 2 ^ 0) * (0 + 1 * 2 ^ 0) = n.above 1 0 (unit f) (zero-lt-suc 0) in
    let b : 0 < Y * 2 ^ low f = mul-pos B (pow_pos (low f)) in
    omega arith
  where
    unit : (k : Format) → 1 < 2 ^ prec k
    unit binary32 = lit< tt
    unit binary64 = lit< tt

-- ---- Where x is less than y and its root is not, the roots are the same. That wants x not below zero.
abbrev pub clear : Float → Bool
clear nan = true
clear (inf s) = not s
clear (fin s m e) = not s

apart : (f : Format) (x y : Float) → T (fits f x) → T (fits f y) → T (positive x) → T (positive y) → num x * den y < num y * den x
    → lt (root f x) (root f y) ≡ false → root f x ≡ root f y
apart f x y p q P Q h k =
    let u = units f x p P in
    let w = units f y q Q in
    let X = u.m * 2 ^ u.i in
    let Y = w.m * 2 ^ w.i in
    let l = 2 ^ low f in
    let A : 0 < X = value_pos x X l P (pow_pos (low f)) u.value in
    let B : 0 < Y = value_pos y Y l Q (pow_pos (low f)) w.value in
    let r = root-finite f x X A u.value u.under in
    let s = root-finite f y Y B w.value w.under in
    let o : r.0 ≤ s.0 =
    ordered f X Y r.0 s.0 (root-nearest f x X r.0 A u.value r.1) (root-nearest f y Y s.0 B w.value s.1)
    (digits f (root f x) r.0 (root-fits f x P) r.1) (digits f (root f y) s.0 (root-fits f y Q) s.1)
    (crossed-back (num x) (den x) (num y) (den y) X Y l (den_pos x) (den_pos y) (pow_pos (low f)) (value→cross x X l u.value)
    (value→cross y Y l w.value) h) in
    elim (eq-or-lt_of_le o) [
      | inl e ↦ same-value f (root f x) (root f y) r.0 s.0 (root-fits f x P) (root-fits f y Q) r.1 s.1 e
      | inr g ↦ absurd (false≢true (sym k ∙ less-of-values (root f x) (root f y) r.0 s.0 l (pow_pos (low f)) r.1 s.1 g))
    ]
  where
    crossed-back : (a c b d X Y l : ℕ) → 0 < c → 0 < d → 0 < l → a * l ≡ X * c → b * l ≡ Y * d → a * d < b * c → X < Y
    crossed-back a c b d X Y l C D L e g h =
        let s : a * d * l < b * c * l = mul-lt-mul_of_pos_right h L in
        let t : a * d * l ≡ X * (c * d) = mul_right_comm a d l ∙ ap (λ (z : ℕ). z * d) e ∙ mul_assoc X c d in
        let v : b * c * l ≡ Y * (c * d) =
        mul_right_comm b c l ∙ ap (λ (z : ℕ). z * c) g ∙ mul_assoc Y d c ∙ ap (λ (z : ℕ). Y * z) (mul_comm d c) in
        lt_of_mul-lt-mul_right (c * d) (lt_of_le_of_lt (le_of_eq (sym t)) (lt_of_lt_of_le s (le_of_eq v)))

-- a root of a value above zero is above zero, and below an infinity
root-some : (f : Format) (y : Float) (e : ℤ) → T (fits f y) → T (positive y) → lt (fin false zero e) (root f y) ≡ true
root-some f y e q Q =
    let w = units f y q Q in
    let Y = w.m * 2 ^ w.i in
    let l = 2 ^ low f in
    let B : 0 < Y = value_pos y Y l Q (pow_pos (low f)) w.value in
    let s = root-finite f y Y B w.value w.under in
    let n = root-nearest f y Y s.0 B w.value s.1 in
    elim (eq-zero-or-pos s.0) [
      | inl z ↦ absurd (some f Y B (subst (λ (k : ℕ). NoneNearer f Y k) z n))
      | inr g ↦ less-of-values (fin false zero e) (root f y) 0 s.0 l (pow_pos (low f))
          (refl, ap (λ (k : ℕ). k * l) (zero-mul (up e)) ∙ zero-mul l ∙ sym (zero-mul (down e))) s.1 g
    ]

under-inf : (z : Float) (R l : ℕ) → HasValue z false R l → lt z (inf false) ≡ true
unfolding lt
under-inf nan R l v = absurd v
under-inf (inf s) R l v = absurd v
under-inf (fin s m e) R l v = refl

root-under-inf : (f : Format) (x : Float) → T (fits f x) → T (positive x) → lt (root f x) (inf false) ≡ true
root-under-inf f x p P =
    let u = units f x p P in
    let X = u.m * 2 ^ u.i in
    let r = root-finite f x X (value_pos x X (2 ^ low f) P (pow_pos (low f)) u.value) u.value u.under in
    under-inf (root f x) r.0 (2 ^ low f) r.1

not-under-nought : (a : ℕ) (d e : ℤ) → ltb a (0 * up d * down e) ≡ true → ⊥
not-under-nought a d e k = nothing a (down e) (subst (λ (z : ℕ). ltb a (z * down e) ≡ true) (zero-mul (up d)) k)

pub root-tie : (f : Format) (x y : Float) → T (fits f x) → T (fits f y) → T (clear x) → lt x y ≡ true → lt (root f x) (root f y) ≡ false
    → root f x ≡ root f y
unfolding root lt
root-tie f nan y p q c h k = absurd (false≢true h)
root-tie f (inf true) y p q c h k = absurd c
root-tie f (inf false) nan p q c h k = absurd (false≢true h)
root-tie f (inf false) (inf t) p q c h k = absurd (false≢true h)
root-tie f (inf false) (fin t n d) p q c h k = absurd (false≢true h)
root-tie f (fin true m e) y p q c h k = absurd c
root-tie f (fin false zero e) nan p q c h k = absurd (false≢true h)
root-tie f (fin false zero e) (inf true) p q c h k = absurd (false≢true h)
root-tie f (fin false zero e) (inf false) p q c h k = absurd (false≢true (sym k))
root-tie f (fin false zero e) (fin true n d) p q c h k = absurd (false≢true h)
root-tie f (fin false zero e) (fin false zero d) p q c h k = absurd (not-under-nought (0 * up e * down d) d e h)
root-tie f (fin false zero e) (fin false (suc n) d) p q c h k =
    absurd (false≢true (sym k ∙ root-some f (fin false (suc n) d) e q (lt→ltb 0 (suc n) (zero-lt-suc n))))
root-tie f (fin false (suc m) e) nan p q c h k = absurd (false≢true h)
root-tie f (fin false (suc m) e) (inf true) p q c h k = absurd (false≢true h)
root-tie f (fin false (suc m) e) (inf false) p q c h k =
    absurd (false≢true (sym k ∙ root-under-inf f (fin false (suc m) e) p (lt→ltb 0 (suc m) (zero-lt-suc m))))
root-tie f (fin false (suc m) e) (fin true n d) p q c h k = absurd (false≢true h)
root-tie f (fin false (suc m) e) (fin false zero d) p q c h k = absurd (not-under-nought (suc m * up e * down d) d e h)
root-tie f (fin false (suc m) e) (fin false (suc n) d) p q c h k =
    apart f (fin false (suc m) e) (fin false (suc n) d) p q (lt→ltb 0 (suc m) (zero-lt-suc m)) (lt→ltb 0 (suc n) (zero-lt-suc n))
    (ltb→lt (suc m * up e * down d) (suc n * up d * down e) (subst (λ (z : Bool). T z) (sym h) tt)) k

-- ---- a sum of squares is not below zero
odd-clear : (d q k l : ℕ) → T (clear (odd d false q k l))
unfolding odd
odd-clear d zero k l = tt
odd-clear d (suc q) k l = tt

units-clear : (f : Format) (q k : ℕ) → T (clear (lib.Ieee.units f false q k))
unfolding lib.Ieee.units
units-clear f q k = go (ltb (q * 2 ^ k) (2 ^ (low f + suc (emax f))))
  where
    go : (b : Bool) → T (clear (cond b (odd (suc (prec f)) false q k (low f)) (inf false)))
    go true = odd-clear (suc (prec f)) q k (low f)
    go false = tt

round-clear : (f : Format) (a c : ℕ) → T (clear (round f false a c))
round-clear f a c = subst (λ (z : Float). T (clear z)) (sym (round_is f false a c))
    (units-clear f (closest (a * 2 ^ low f) (c * 2 ^ (size (a * 2 ^ low f / c) - prec f))) (size (a * 2 ^ low f / c) - prec f))

pub square-clear : (f : Format) (x : Float) → T (clear (mul f x x))
unfolding mul
square-clear f nan = tt
square-clear f (inf true) = tt
square-clear f (inf false) = tt
square-clear f (fin true m e) = round-clear f (m * up e * (m * up e)) (down e * down e)
square-clear f (fin false m e) = round-clear f (m * up e * (m * up e)) (down e * down e)

pub sum-clear : (f : Format) (x y : Float) → T (clear x) → T (clear y) → T (clear (add f x y))
unfolding add sum
sum-clear f nan y p q = tt
sum-clear f (inf true) y p q = absurd p
sum-clear f (inf false) nan p q = tt
sum-clear f (inf false) (inf true) p q = tt
sum-clear f (inf false) (inf false) p q = tt
sum-clear f (inf false) (fin t n d) p q = tt
sum-clear f (fin true m e) y p q = absurd p
sum-clear f (fin false m e) nan p q = tt
sum-clear f (fin false m e) (inf t) p q = q
sum-clear f (fin false m e) (fin true n d) p q = absurd q
sum-clear f (fin false m e) (fin false n d) p q = round-clear f (m * up e * down d + n * up d * down e) (down e * down d)
