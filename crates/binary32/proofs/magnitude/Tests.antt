-- `Within` and the comparisons that a program makes. Assumes nothing.
use Rattle.std.proofs.Common.{◌≡◌, ℕ, zero, suc, ◌+◌, ◌*◌, ◌<◌, ◌≤◌, Bool, true, false, not, ◌&&◌, ◌||◌, T, eqb, ltb, ℤ, sym, refl, ap, ◌∙◌}
use Rattle.std.proofs.Common.{subst, inl, inr, le_trans, le_of_eq, le_of_lt, zero-lt-suc, eq-zero-or-pos, eq-or-lt_of_le, mul-pos, zero-mul}
use Rattle.std.proofs.Common.{arith, eqb→eq, ltb→lt, lt→ltb, nltb→le}
use lib.Ieee.{Float, nan, inf, fin, up, down, lt, eq, le, below, level}
use lib.Ieee.Fits.{up_pos, and_l, eq→eqb}
use lib.Ieee.Scale.{finite}
use Rattle.binary32.specs.Limits.{size_of, plus_zero}
use Rattle.binary32.proofs.magnitude.Size.{Within, NonNeg}
use Rattle.binary32.proofs.magnitude.Round.{or_split}

or_l : (a b : Bool) → T a → T (a || b)
or_l true b t = tt
or_l false b t = absurd t

or_r : (a b : Bool) → T b → T (a || b)
or_r true b t = tt
or_r false b t = t

and_both : (a b : Bool) → T a → T b → T (a && b)
and_both true b t u = u
and_both false b t u = t

-- a ≤ b with both signs clear, and with both set; a negative number and one that is not
le-clear : (a b : ℕ) → a ≤ b → T (below false a false b || level false a false b)
le-clear a b h = elim (eq-or-lt_of_le h) [
  | inl p ↦ or_r (ltb a b) (eqb a b && true) (and_both (eqb a b) true (eq→eqb p) tt)
  | inr q ↦ or_l (ltb a b) (eqb a b && true) (lt→ltb a b q)
]

le-set : (a b : ℕ) → b ≤ a → T (below true a true b || level true a true b)
le-set a b h = elim (eq-or-lt_of_le h) [
  | inl p ↦ or_r (ltb b a) (eqb a b && true) (and_both (eqb a b) true (eq→eqb (sym p)) tt)
  | inr q ↦ or_l (ltb b a) (eqb a b && true) (lt→ltb b a q)
]

le-across : (a b : ℕ) → T (below true a false b || level true a false b)
le-across a b = elim (eq-zero-or-pos (a + b)) [
  | inl p ↦ or_r (ltb 0 (a + b)) (eqb a b && eqb a 0) (and_both (eqb a b) (eqb a 0) (eq→eqb (same p)) (eq→eqb (nought p)))
  | inr q ↦ or_l (ltb 0 (a + b)) (eqb a b && eqb a 0) (lt→ltb 0 (a + b) q)
]
  where
    same : a + b ≡ 0 → a ≡ b
    same p = omega arith

    nought : a + b ≡ 0 → a ≡ 0
    nought p = omega arith

-- what is within b lies from -b to b
pub within→le : (n : ℕ) (d : ℤ) (x : Float) → Within (fin false n d) x → T (le x (fin false n d)) × T (le (fin true n d) x)
unfolding le lt eq
within→le n d nan h = absurd h
within→le n d (inf t) h = absurd h
within→le n d (fin false m e) h = (le-clear (m * up e * down d) (n * up d * down e) h, le-across (n * up d * down e) (m * up e * down d))
within→le n d (fin true m e) h = (le-across (m * up e * down d) (n * up d * down e), le-set (n * up d * down e) (m * up e * down d) h)

clear-le : (a b : ℕ) → T (below false a false b || level false a false b) → a ≤ b
clear-le a b t = elim (or_split (ltb a b) (eqb a b && true) t) [
  | inl u ↦ le_of_lt (ltb→lt a b u)
  | inr u ↦ le_of_eq (eqb→eq a b (and_l (eqb a b) true u))
]

set-le : (a b : ℕ) → T (below true a true b || level true a true b) → b ≤ a
set-le a b t = elim (or_split (ltb b a) (eqb a b && true) t) [
  | inl u ↦ le_of_lt (ltb→lt b a u)
  | inr u ↦ le_of_eq (sym (eqb→eq a b (and_l (eqb a b) true u)))
]

-- and back
pub le→within : (n : ℕ) (d : ℤ) (x : Float) → T (le x (fin false n d)) → T (le (fin true n d) x) → Within (fin false n d) x
unfolding le lt eq
le→within n d nan h k = absurd h
le→within n d (inf true) h k = absurd k
le→within n d (inf false) h k = absurd h
le→within n d (fin false m e) h k = clear-le (m * up e * down d) (n * up d * down e) h
le→within n d (fin true m e) h k = set-le (n * up d * down e) (m * up e * down d) k

-- the size of x at most b
pub size→within : (n : ℕ) (d : ℤ) (x : Float) → T (finite x) → T (le (size_of x) (fin false n d)) → Within (fin false n d) x
unfolding le lt eq
size→within n d nan t h = absurd t
size→within n d (inf s) t h = absurd t
size→within n d (fin s m e) t h = clear-le (m * up e * down d) (n * up d * down e) h

-- ---- 0 or more
pub nonneg→le : (x : Float) → NonNeg x → T (le plus_zero x)
unfolding le lt eq
nonneg→le nan h = absurd h
nonneg→le (inf s) h = absurd h
nonneg→le (fin false m e) h = le-clear (0 * 1 * down e) (m * up e * 1) (le_trans (le_of_eq (zero-mul (down e))) (least (m * up e * 1)))
  where
    least : (z : ℕ) → 0 ≤ z
    least z = omega arith
nonneg→le (fin true m e) h = or_r (below false (0 * 1 * down e) true (m * up e * 1)) (level false (0 * 1 * down e) true (m * up e * 1))
    (and_both (eqb (0 * 1 * down e) (m * up e * 1)) (eqb (0 * 1 * down e) 0)
    (eq→eqb (zero-mul (down e) ∙ sym (ap (λ (z : ℕ). z * up e * 1) h ∙ ap (λ (z : ℕ). z * 1) (zero-mul (up e)))))
    (eq→eqb (zero-mul (down e))))

first-zero : (m u : ℕ) → 0 < u → 0 ≡ m * u * 1 → m ≡ 0
first-zero zero u U h = refl
first-zero (suc m) u U h =
    absurd (native.Mathlib.Nat.lt_irrefl 0 (subst (λ (z : ℕ). 0 < z) (sym h) (mul-pos (mul-pos (zero-lt-suc m) U) (zero-lt-suc 0))))

pub le→nonneg : (x : Float) → T (finite x) → T (le plus_zero x) → NonNeg x
unfolding le lt eq
le→nonneg nan t h = absurd t
le→nonneg (inf s) t h = absurd t
le→nonneg (fin false m e) t h = tt
le→nonneg (fin true m e) t h = first-zero m (up e) (up_pos e) (sym (zero-mul (down e))
    ∙ eqb→eq (0 * 1 * down e) (m * up e * 1) (and_l (eqb (0 * 1 * down e) (m * up e * 1)) (eqb (0 * 1 * down e) 0) h))

-- ---- what is not at most c, and not negative, is c at least in size
not-clear : (a b : ℕ) → T (not (below false a false b || level false a false b)) → b ≤ a
not-clear a b t = nltb→le a b (left (ltb a b) (eqb a b && true) t)
  where
    left : (p q : Bool) → T (not (p || q)) → T (not p)
    left true q h = h
    left false q h = tt

pub past→within : (n : ℕ) (d : ℤ) (x : Float) → T (finite x) → NonNeg x → T (not (le x (fin false n d))) → Within x (fin false n d)
unfolding le lt eq
past→within n d nan t h k = absurd t
past→within n d (inf s) t h k = absurd t
past→within n d (fin false m e) t h k = not-clear (m * up e * down d) (n * up d * down e) k
past→within n d (fin true m e) t h k = absurd (no (below true (m * up e * down d) false (n * up d * down e)
    || level true (m * up e * down d) false (n * up d * down e)) (le-across (m * up e * down d) (n * up d * down e)) k)
  where
    no : (b : Bool) → T b → T (not b) → ⊥
    no true t u = u
    no false t u = t
