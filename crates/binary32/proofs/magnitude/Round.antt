-- `round` and the order: a smaller fraction rounds to a value that is no larger in size, whatever the signs, and a value that the format
-- holds is its own rounding. Assumes nothing.
use Rattle.std.proofs.Common.{◌≡◌, ℕ, zero, suc, ◌+◌, ◌-◌, ◌*◌, ◌%◌, ◌^◌, ◌<◌, ◌≤◌, Bool, true, false, cond, ◌&&◌, ◌||◌, T, eqb, ltb, leb}
use Rattle.std.proofs.Common.{◌⊎◌, ℤ, pos, negsuc, sym, refl, ap, ◌∙◌, subst, inl, inr, true≢false, le_trans, le_of_eq, lt_of_lt_of_le}
use Rattle.std.proofs.Common.{le_of_suc-le-suc, lt_of_le_of_lt, le_of_lt, mul-le-mul_right, zero-lt-suc, mul_assoc, mul_comm}
use Rattle.std.proofs.Common.{mul-lt-mul_of_pos_right, mul-pos, lt_of_not-le, zero-mul, mul-one, mul_right_comm, not-le_of_lt}
use Rattle.std.proofs.Common.{le-mul_of_pos_right, le_of_mul-le-mul_right, eqb→eq, ltb→lt, leb→le, pow_pos, pow-add}
use native.Mathlib.Nat.{eq_of_mul-eq-mul_right}
use lib.Pow.{pow-lt}
use lib.Ieee.{Float, nan, inf, fin, Format, prec, emax, low, up, down, odd, units, round, fits, le}
use lib.Ieee.Digits.{back}
use lib.Ieee.Fits.{up_pos, down_pos, and_l, and_r, round_is}
use lib.Ieee.Exact.{HasValue, units_val, round_exact}
use lib.Ieee.Order.{drop, kept, transfer, round_mono}
use lib.Ieee.Scale.{grid, overflow, finite, round_under}
use Rattle.binary32.proofs.magnitude.Size.{Within}

-- ---- the rounded value, whatever the sign
pub round-value : (f : Format) (s : Bool) (a c : ℕ) → grid f a c < overflow f → HasValue (round f s a c) s (grid f a c) (2 ^ low f)
round-value f s a c h = subst (λ (z : Float). HasValue z s (grid f a c) (2 ^ low f)) (sym (round_is f s a c))
    (units_val f s (kept (prec f) (a * 2 ^ low f) c) (drop (prec f) (a * 2 ^ low f) c) h)

-- ---- the order of two values that are not negative, as one of fractions
pub or_split : (a b : Bool) → T (a || b) → T a ⊎ T b
or_split true b t = inl tt
or_split false b t = inr t

lt-or-eq : (a b : ℕ) → T (ltb a b || (eqb a b && true)) → a ≤ b
lt-or-eq a b t = elim (or_split (ltb a b) (eqb a b && true) t) [
  | inl u ↦ le_of_lt (ltb→lt a b u)
  | inr u ↦ le_of_eq (eqb→eq a b (and_l (eqb a b) true u))
]

values-le : (x y : Float) (a c b d : ℕ) → HasValue x false a c → HasValue y false b d → T (le x y) → a * d ≤ b * c
unfolding le
values-le nan y a c b d h k l = absurd h
values-le (inf s) y a c b d h k l = absurd h
values-le (fin true m e) y a c b d h k l = absurd (true≢false h.0)
values-le (fin false m e) nan a c b d h k l = absurd k
values-le (fin false m e) (inf t) a c b d h k l = absurd k
values-le (fin false m e) (fin true n g) a c b d h k l = absurd (true≢false k.0)
values-le (fin false m e) (fin false n g) a c b d h k l =
    transfer a b c d (m * up e) (n * up g) (down e) (down g) (down_pos e) (down_pos g) (sym h.1) (sym k.1)
    (lt-or-eq (m * up e * down g) (n * up g * down e) l)

-- ---- what is at most a finite value has not overflowed
units-le : (f : Format) (q k : ℕ) (y : Float) → T (finite y) → T (le (units f false q k) y) → q * 2 ^ k < overflow f
unfolding units le
units-le f q k nan t l = absurd t
units-le f q k (inf s) t l = absurd t
units-le f q k (fin s m e) t l = go (ltb (q * 2 ^ k) (overflow f)) (ltb→lt (q * 2 ^ k) (overflow f)) l
  where
    go : (b : Bool) → (T b → q * 2 ^ k < overflow f) → T (le (cond b (odd (suc (prec f)) false q k (low f)) (inf false)) (fin s m e))
        → q * 2 ^ k < overflow f
    go true h u = h tt
    go false h u = absurd u

-- ---- a smaller fraction rounds to no larger a number of units
pub grid-le : (f : Format) (a b c d : ℕ) → 0 < b → 0 < d → a * d ≤ c * b → T (finite (round f false c d))
    → (grid f a b ≤ grid f c d) × (grid f a b < overflow f)
grid-le f a b c d B D h t =
    let l : T (le (round f false a b) (round f false c d)) = round_mono f a b c d B D h in
    let u : grid f a b < overflow f = units-le f (kept (prec f) (a * 2 ^ low f) b) (drop (prec f) (a * 2 ^ low f) b) (round f false c d) t
    (subst (λ (z : Float). T (le z (round f false c d))) (round_is f false a b) l) in (
      le_of_mul-le-mul_right (values-le (round f false a b) (round f false c d) (grid f a b) (2 ^ low f) (grid f c d) (2 ^ low f)
          (round-value f false a b u) (round-value f false c d (round_under f c d t)) l) (pow_pos (low f)),
      u,
    )

-- ---- `Within` from the values
pub within-of-values : (x y : Float) (s t : Bool) (a b c : ℕ) → 0 < c → HasValue x s a c → HasValue y t b c → b ≤ a → Within x y
within-of-values nan y s t a b c C h k l = absurd h
within-of-values (inf u) y s t a b c C h k l = absurd h
within-of-values (fin u m e) nan s t a b c C h k l = absurd k
within-of-values (fin u m e) (inf v) s t a b c C h k l = absurd k
within-of-values (fin u m e) (fin v n g) s t a b c C h k l =
    transfer (n * up g) (m * up e) (down g) (down e) b a c c C C k.1 h.1 (mul-le-mul_right c l)

pub value-of-within : (x y : Float) (s t : Bool) (a b c : ℕ) → HasValue x s a c → HasValue y t b c → 0 < c → Within x y → b ≤ a
value-of-within nan y s t a b c h k C l = absurd h
value-of-within (inf u) y s t a b c h k C l = absurd h
value-of-within (fin u m e) nan s t a b c h k C l = absurd k
value-of-within (fin u m e) (inf v) s t a b c h k C l = absurd k
value-of-within (fin u m e) (fin v n g) s t a b c h k C l =
    le_of_mul-le-mul_right
    (transfer b a c c (n * up g) (m * up e) (down g) (down e) (down_pos g) (down_pos e) (sym k.1) (sym h.1) l) C

-- ---- THE BASE: a / b at most c / d rounds to no more in size, with any sign
pub round-within : (f : Format) (s : Bool) (a b c d : ℕ) → 0 < b → 0 < d → a * d ≤ c * b → T (finite (round f false c d))
    → Within (round f false c d) (round f s a b)
round-within f s a b c d B D h t =
    let g = grid-le f a b c d B D h t in
    within-of-values (round f false c d) (round f s a b) false s (grid f c d) (grid f a b) (2 ^ low f) (pow_pos (low f))
    (round-value f false c d (round_under f c d t)) (round-value f s a b g.1) g.0

-- ---- a value that the format holds is its own rounding
-- the format has the number m * 2 ^ e: m may be even, which `fits` rules out
abbrev pub Held : Format → ℕ → ℤ → Type 0
Held f m e = (m < 2 ^ prec f) × (down e ≤ 2 ^ low f) × (m * up e < 2 ^ suc (emax f) * down e)

pub held : (f : Format) (s : Bool) (m : ℕ) (e : ℤ) → T (fits f (fin s m e)) → Held f m e
unfolding fits
held f s zero e t = (
  pow_pos (prec f),
  le_trans (le-mul_of_pos_right (down e) (up_pos e))
      (le_trans (le_of_eq (mul_comm (down e) (up e) ∙ eqb→eq (up e * down e) 1 t)) (pow_pos (low f))),
  lt_of_le_of_lt (le_of_eq (zero-mul (up e))) (mul-pos (pow_pos (suc (emax f))) (down_pos e)),
)
held f s (suc m) e t =
    let a : Bool = eqb (suc m % 2) 1 in
    let b : Bool = ltb (suc m) (2 ^ prec f) in
    let c : Bool = leb (down e) (2 ^ low f) in
    let d : Bool = ltb (suc m * up e) (2 ^ suc (emax f) * down e) in (
      ltb→lt (suc m) (2 ^ prec f) (and_r a b (and_l (a && b) c (and_l (a && b && c) d t))),
      leb→le (down e) (2 ^ low f) (and_r (a && b) c (and_l (a && b && c) d t)),
      ltb→lt (suc m * up e) (2 ^ suc (emax f) * down e) (and_r (a && b && c) d t),
    )

below-exp : (j k : ℕ) → 2 ^ j ≤ 2 ^ k → j ≤ k
below-exp j k h = le_of_suc-le-suc (lt_of_not-le (λ (g : suc k ≤ j). not-le_of_lt (pow-lt g) h))

exact : (f : Format) (s : Bool) (m : ℕ) (e : ℤ) → m < 2 ^ prec f → down e ≤ 2 ^ low f → m * up e < 2 ^ suc (emax f) * down e
    → HasValue (round f s (m * up e) (down e)) s (m * up e) (down e)
exact f s m (pos k) p d u =
    let e : m * 2 ^ (low f + k) ≡ m * 2 ^ k * 2 ^ low f =
    ap (λ (x : ℕ). m * x) (pow-add 2 (low f) k ∙ mul_comm (2 ^ low f) (2 ^ k)) ∙ sym (mul_assoc m (2 ^ k) (2 ^ low f)) in
    let v : m * 2 ^ k < 2 ^ suc (emax f) = lt_of_lt_of_le u (le_of_eq (mul-one (2 ^ suc (emax f)))) in
    round_exact f s (m * 2 ^ k) 1 m (low f + k) (zero-lt-suc 0) p
    (lt_of_le_of_lt (le_of_eq e) (lt_of_lt_of_le (mul-lt-mul_of_pos_right v (pow_pos (low f)))
    (le_of_eq (mul_comm (2 ^ suc (emax f)) (2 ^ low f) ∙ sym (pow-add 2 (low f) (suc (emax f)))))))
    (sym e ∙ sym (mul-one (m * 2 ^ (low f + k))))
exact f s m (negsuc k) p d u =
    let j = low f - suc k in
    let e : 2 ^ j * 2 ^ suc k ≡ 2 ^ low f =
    sym (pow-add 2 j (suc k)) ∙ ap (λ (x : ℕ). 2 ^ x) (back (low f) (suc k) (below-exp (suc k) (low f) d)) in
    let v : m < 2 ^ suc (emax f) * 2 ^ suc k = lt_of_le_of_lt (le_of_eq (sym (mul-one m))) u in
    round_exact f s (m * 1) (2 ^ suc k) m j (pow_pos (suc k)) p
    (lt_of_lt_of_le (mul-lt-mul_of_pos_right v (pow_pos j))
    (le_of_eq (mul_assoc (2 ^ suc (emax f)) (2 ^ suc k) (2 ^ j) ∙ ap (λ (x : ℕ). 2 ^ suc (emax f) * x) (mul_comm (2 ^ suc k) (2 ^ j) ∙ e)
    ∙ mul_comm (2 ^ suc (emax f)) (2 ^ low f) ∙ sym (pow-add 2 (low f) (suc (emax f))))))
    (ap (λ (x : ℕ). x * 2 ^ low f) (mul-one m) ∙ ap (λ (x : ℕ). m * x) (sym e) ∙ sym (mul_assoc m (2 ^ j) (2 ^ suc k)))

pub value-finite : (x : Float) (s : Bool) (a c : ℕ) → HasValue x s a c → T (finite x)
value-finite nan s a c h = absurd h
value-finite (inf t) s a c h = absurd h
value-finite (fin t m e) s a c h = tt

-- two fractions that one value equals
pub one_value : (x : Float) (s t : Bool) (a c b d : ℕ) → HasValue x s a c → HasValue x t b d → a * d ≡ b * c
one_value nan s t a c b d h k = absurd h
one_value (inf u) s t a c b d h k = absurd h
one_value (fin u m e) s t a c b d h k =
    eq_of_mul-eq-mul_right (down e) (down_pos e) (a * d) (b * c)
    (mul_right_comm a d (down e) ∙ ap (λ (z : ℕ). z * d) (sym h.1) ∙ mul_right_comm (m * up e) c d ∙ ap (λ (z : ℕ). z * c) k.1
    ∙ mul_right_comm b (down e) c)

-- what a held value is in units of the format's smallest one
pub units-held : (f : Format) (s : Bool) (m : ℕ) (e : ℤ) → Held f m e
    → HasValue (fin s m e) s (grid f (m * up e) (down e)) (2 ^ low f) × T (finite (round f false (m * up e) (down e)))
units-held f s m e p =
    let a = m * up e in
    let c = down e in
    let x : HasValue (round f false a c) false a c = exact f false m e p.0 p.1 p.2 in
    let u : T (finite (round f false a c)) = value-finite (round f false a c) false a c x in
    let v : HasValue (round f false a c) false (grid f a c) (2 ^ low f) = round-value f false a c (round_under f a c u) in
    ((refl, one_value (round f false a c) false false a c (grid f a c) (2 ^ low f) x v), u)

-- a fraction at most a held value rounds to no more
pub round-held : (f : Format) (s : Bool) (a b : ℕ) (t : Bool) (m : ℕ) (e : ℤ) → Held f m e → 0 < b → a * down e ≤ m * up e * b
    → Within (fin t m e) (round f s a b)
round-held f s a b t m e p B h =
    let v = units-held f t m e p in
    let g = grid-le f a b (m * up e) (down e) B (down_pos e) h v.1 in
    within-of-values (fin t m e) (round f s a b) t s (grid f (m * up e) (down e)) (grid f a b) (2 ^ low f) (pow_pos (low f)) v.0
    (round-value f s a b g.1) g.0
