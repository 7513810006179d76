-- More bounds: a quotient, a difference whose second part is known from both sides, one more step along a line, and a tolerance that is
-- doubled without end. Assumes nothing.
use Rattle.std.proofs.Common.{◌≡◌, ℕ, suc, ◌+◌, ◌-◌, ◌*◌, ◌^◌, ◌<◌, ◌≤◌, Bool, true, false, cond, ◌&&◌, T, eqb, ltb, ℤ, pos, sym, ap, ◌∙◌}
use Rattle.std.proofs.Common.{subst, le_trans, le_of_eq, lt_of_lt_of_le, mul-le-mul_right, zero-lt-suc, mul_assoc, suc-mul, mul_comm}
use Rattle.std.proofs.Common.{add-mul, mul-le-mul, pos_of_ne-zero, mul-pos, one-mul, zero-mul, mul-one, mul_left_comm, arith, eqb→eq}
use Rattle.std.proofs.Common.{ltb→lt}
use native.Mathlib.Nat.{mul-sub}
use mathlib.Core.Bool.{beq}
use lib.Ieee.{Float, nan, inf, fin, Format, prec, low, up, down, unlike, odd, units, round, neg, sum, add, sub, mul, div}
use lib.Ieee.{le, lt, eq}
use lib.Ieee.Fits.{up_pos, down_pos, round_is}
use lib.Ieee.Exact.{odd_sign}
use lib.Ieee.Order.{drop, kept}
use lib.Ieee.Scale.{finite, overflow}
use lib.Ieee.Positive.{first_pos}
use Rattle.binary32.specs.Limits.{size_of, plus_zero}
use Rattle.binary32.proofs.magnitude.Size.{Within, within, NonNeg, pow}
use Rattle.binary32.proofs.magnitude.Round.{round-within, round-held, Held, held}
use Rattle.binary32.proofs.magnitude.Signs.{value-nonneg, zero-nonneg, zero-fits}
use Rattle.binary32.proofs.magnitude.Tests.{nonneg→le, le→nonneg}
use Rattle.binary32.proofs.magnitude.Laws.{test→within, within-trans, within-finite, cond-within}
use Rattle.binary32.proofs.magnitude.Shares.{not-zero}

-- ---- a quotient, by a divisor that is c at least in size
ratio : (M D N E P G L R : ℕ) → M * D ≤ N * E → P * G ≤ L * R → M * G * (P * D) ≤ N * R * (L * E)
ratio M D N E P G L R h k =
    le_trans (le_of_eq (simp (mul_assoc, mul_comm, mul_left_comm)))
    (le_trans (mul-le-mul h k) (le_of_eq (simp (mul_assoc, mul_comm, mul_left_comm))))

pub div-sizes : (f : Format) (b c x y : Float) → T (finite (div f (size_of b) (size_of c))) → Within b x → Within y c
    → Within (div f (size_of b) (size_of c)) (div f x y)
unfolding div
div-sizes f nan c x y t h k = absurd h
div-sizes f (inf s) c x y t h k = absurd h
div-sizes f (fin s n d) c nan y t h k = absurd h
div-sizes f (fin s n d) c (inf u) y t h k = absurd h
div-sizes f (fin s n d) c (fin u m e) nan t h k = absurd k
div-sizes f (fin s n d) c (fin u m e) (inf w) t h k = absurd k
div-sizes f (fin s n d) nan (fin u m e) (fin w l g) t h k = absurd k
div-sizes f (fin s n d) (inf v) (fin u m e) (fin w l g) t h k = absurd k
div-sizes f (fin s n d) (fin v p r) (fin u m e) (fin w l g) t h k =
    go (eqb p 0) (eqb l 0) (eqb→eq p 0) (λ q. subst (λ (z : ℕ). T (eqb z 0)) (sym q) tt) (eqb→eq l 0) t
  where
    X : Float
    X = round f false (n * up d * down r) (p * up r * down d)

    Y : Float
    Y = round f (unlike u w) (m * up e * down g) (l * up g * down e)

    no : (b : Bool) → T (finite (cond b nan (inf false))) → ⊥
    no true t = t
    no false t = t

    go : (v w' : Bool) → (T v → p ≡ 0) → (p ≡ 0 → T v) → (T w' → l ≡ 0) → T (finite (cond v (cond (eqb n 0) nan (inf false)) X))
        → Within (cond v (cond (eqb n 0) nan (inf false)) X) (cond w' (cond (eqb m 0) nan (inf (unlike u w))) Y)
    go true w' a b c t = absurd (no (eqb n 0) t)
    go false w' a b c t =
        let P : 0 < p = pos_of_ne-zero b in
        let L : 0 < l =
        first_pos l (up g) (first_pos (l * up g) (down r) (lt_of_lt_of_le (mul-pos (mul-pos P (up_pos r)) (down_pos g)) k)) in
        pick w' (λ q. not-zero l L (c q))
        (round-within f (unlike u w) (m * up e * down g) (l * up g * down e) (n * up d * down r) (p * up r * down d)
        (mul-pos (mul-pos L (up_pos g)) (down_pos e)) (mul-pos (mul-pos P (up_pos r)) (down_pos d))
        (ratio (m * up e) (down d) (n * up d) (down e) (p * up r) (down g) (l * up g) (down r) h k) t)
      where
        pick : (q : Bool) → (T q → ⊥) → Within X Y → Within X (cond q (cond (eqb m 0) nan (inf (unlike u w))) Y)
        pick true z y = absurd (z tt)
        pick false z y = y

pub div-within : (f : Format) (b c g x y : Float) → T (within g (div f (size_of b) (size_of c))) → Within b x → Within y c
    → Within g (div f x y)
div-within f b c g x y t h k =
    let w = test→within g (div f (size_of b) (size_of c)) t in
    within-trans g (div f (size_of b) (size_of c)) (div f x y) w
    (div-sizes f b c x y (within-finite g (div f (size_of b) (size_of c)) w) h k)

-- ---- x - y, for an x that is written out and a y above zero that lies from l to h
less : (p q r s : ℕ) → p ≡ r → s ≤ q → p - q ≤ r - s
less p q r s e h = omega arith

more : (p q r s : ℕ) → p ≤ r → q ≡ s → p - q ≤ r - s
more p q r s h e = omega arith

-- X / dx - Z / dz ≤ X / dx - Y / dy for Y / dy ≤ Z / dz
shrink : (X dx Y dy Z dz : ℕ) → Y * dz ≤ Z * dy → (X * dz - Z * dx) * (dx * dy) ≤ (X * dy - Y * dx) * (dx * dz)
shrink X dx Y dy Z dz h =
    let a : dx * dy * (X * dz) ≡ dx * dz * (X * dy) = simp (mul_assoc, mul_comm, mul_left_comm) in
    let b : dx * dz * (Y * dx) ≤ dx * dy * (Z * dx) =
    simp (mul_assoc, mul_comm, mul_left_comm) (simp (mul_assoc, mul_comm, mul_left_comm) at (mul-le-mul_right (dx * dx) h)) in
    le_trans (le_of_eq (mul_comm (X * dz - Z * dx) (dx * dy) ∙ mul-sub (dx * dy) (X * dz) (Z * dx)))
    (le_trans (less (dx * dy * (X * dz)) (dx * dy * (Z * dx)) (dx * dz * (X * dy)) (dx * dz * (Y * dx)) a b)
    (le_of_eq (sym (mul_comm (X * dy - Y * dx) (dx * dz) ∙ mul-sub (dx * dz) (X * dy) (Y * dx)))))

-- Z / dz - X / dx ≤ H / dh - X / dx for Z / dz ≤ H / dh
grow : (X dx H dh Z dz : ℕ) → Z * dh ≤ H * dz → (Z * dx - X * dz) * (dx * dh) ≤ (H * dx - X * dh) * (dx * dz)
grow X dx H dh Z dz h =
    let a : dx * dh * (X * dz) ≡ dx * dz * (X * dh) = simp (mul_assoc, mul_comm, mul_left_comm) in
    let b : dx * dh * (Z * dx) ≤ dx * dz * (H * dx) =
    simp (mul_assoc, mul_comm, mul_left_comm) (simp (mul_assoc, mul_comm, mul_left_comm) at (mul-le-mul_right (dx * dx) h)) in
    le_trans (le_of_eq (mul_comm (Z * dx - X * dz) (dx * dh) ∙ mul-sub (dx * dh) (Z * dx) (X * dz)))
    (le_trans (more (dx * dh * (Z * dx)) (dx * dh * (X * dz)) (dx * dz * (H * dx)) (dx * dz * (X * dh)) b a)
    (le_of_eq (sym (mul_comm (H * dx - X * dh) (dx * dz) ∙ mul-sub (dx * dz) (H * dx) (X * dh)))))

-- X / dx less L / dl, rounded: 0 where that is negative
abbrev pub gap_of : Format → ℕ → ℤ → ℕ → ℤ → Float
gap_of f n d m e = round f false (n * up d * down e - m * up e * down d) (down d * down e)

pub sub-between : (f : Format) (xn : ℕ) (xd : ℤ) (ln : ℕ) (ld : ℤ) (hn : ℕ) (hd : ℤ) (g y : Float) → T (within g (gap_of f xn xd ln ld))
    → T (within g (gap_of f hn hd xn xd)) → T (ltb 0 ln) → NonNeg y
    → Within (fin false hn hd) y → Within y (fin false ln ld) → Within g (sub f (fin false xn xd) y)
unfolding sub neg add sum
sub-between f xn xd ln ld hn hd g nan a b z p h l = absurd p
sub-between f xn xd ln ld hn hd g (inf s) a b z p h l = absurd p
sub-between f xn xd ln ld hn hd g (fin true m e) a b z p h l = absurd (not-zero m
    (first_pos m (up e) (first_pos (m * up e) (down ld) (lt_of_lt_of_le (mul-pos (mul-pos (ltb→lt 0 ln z) (up_pos ld)) (down_pos e)) l))) p)
sub-between f xn xd ln ld hn hd g (fin false m e) a b z p h l =
    let C : 0 < down xd * down e = mul-pos (down_pos xd) (down_pos e) in
    let u = test→within g (gap_of f xn xd ln ld) a in
    let v = test→within g (gap_of f hn hd xn xd) b in
    cond-within g (ltb (xn * up xd * down e) (m * up e * down xd)) (round f true (m * up e * down xd - xn * up xd * down e)
    (down xd * down e)) (round f false (xn * up xd * down e - m * up e * down xd) (down xd * down e))
    (within-trans g (gap_of f hn hd xn xd) (round f true (m * up e * down xd - xn * up xd * down e) (down xd * down e)) v
    (round-within f true (m * up e * down xd - xn * up xd * down e) (down xd * down e) (hn * up hd * down xd - xn * up xd * down hd)
    (down hd * down xd) C (mul-pos (down_pos hd) (down_pos xd))
    (le_trans (le_of_eq (ap (λ (k : ℕ). (m * up e * down xd - xn * up xd * down e) * k) (mul_comm (down hd) (down xd))))
    (grow (xn * up xd) (down xd) (hn * up hd) (down hd) (m * up e) (down e) h))
    (within-finite g (gap_of f hn hd xn xd) v)))
    (within-trans g (gap_of f xn xd ln ld) (round f false (xn * up xd * down e - m * up e * down xd) (down xd * down e)) u
    (round-within f false (xn * up xd * down e - m * up e * down xd) (down xd * down e) (xn * up xd * down ld - ln * up ld * down xd)
    (down xd * down ld) C (mul-pos (down_pos xd) (down_pos ld))
    (shrink (xn * up xd) (down xd) (ln * up ld) (down ld) (m * up e) (down e) l)
    (within-finite g (gap_of f xn xd ln ld) u)))

-- ---- one more step along a line: i steps of 2 ^ k at most, and one more
steps : (i k a e y g : ℕ) → a * 1 ≤ i * k * e → y * 1 ≤ 1 * k * g → (a * g + y * e) * 1 ≤ suc i * k * (e * g)
steps i k a e y g h l =
    let p : a * g ≤ i * k * (e * g) =
    le_trans (mul-le-mul_right g (le_trans (le_of_eq (sym (mul-one a))) h)) (le_of_eq (mul_assoc (i * k) e g)) in
    let q : y * e ≤ k * (e * g) =
    le_trans (mul-le-mul_right e (le_trans (le_of_eq (sym (mul-one y))) l)) (le_of_eq (simp (one-mul, mul_assoc, mul_comm))) in
    let r : suc i * k * (e * g) ≡ i * k * (e * g) + k * (e * g) = ap (λ (z : ℕ). z * (e * g)) (suc-mul i k) ∙ add-mul (i * k) k (e * g) in
    omega arith

sum-held : (f : Format) (s : Bool) (a : ℕ) (t : Bool) (b c n k : ℕ) → 0 < c → Held f n (pos k) → (a + b) * 1 ≤ n * 2 ^ k * c
    → Within (fin false n (pos k)) (sum f s a t b c)
unfolding sum
sum-held f s a t b c n k C p h =
    cond-within (fin false n (pos k)) (beq s t) (round f s (a + b) c)
    (cond (ltb a b) (round f t (b - a) c) (round f (s && ltb b a) (a - b) c))
    (round-held f s (a + b) c false n (pos k) p C h)
    (cond-within (fin false n (pos k)) (ltb a b) (round f t (b - a) c) (round f (s && ltb b a) (a - b) c)
    (round-held f t (b - a) c false n (pos k) p C (le_trans (mul-le-mul_right 1 (in_b a b)) h))
    (round-held f (s && ltb b a) (a - b) c false n (pos k) p C (le_trans (mul-le-mul_right 1 (in-a a b)) h)))
  where
    in-a : (a b : ℕ) → a - b ≤ a + b
    in-a a b = omega arith

    in_b : (a b : ℕ) → b - a ≤ a + b
    in_b a b = omega arith

pub add_step : (f : Format) (i k : ℕ) (x y : Float) → Held f (suc i) (pos k) → Within (fin false i (pos k)) x → Within (pow k) y
    → Within (fin false (suc i) (pos k)) (add f x y)
unfolding add
add_step f i k nan y p h l = absurd h
add_step f i k (inf s) y p h l = absurd h
add_step f i k (fin s m e) nan p h l = absurd l
add_step f i k (fin s m e) (inf t) p h l = absurd l
add_step f i k (fin s m e) (fin t n g) p h l =
    sum-held f s (m * up e * down g) t (n * up g * down e) (down e * down g) (suc i) k (mul-pos (down_pos e) (down_pos g)) p
    (steps i (2 ^ k) (m * up e) (down e) (n * up g) (down g) h l)

-- ---- a tolerance that is doubled, also past the largest value: it stays 0 or more, and no NaN
units-least : (f : Format) (q k : ℕ) → T (le plus_zero (units f false q k))
unfolding units le lt
units-least f q k = go (ltb (q * 2 ^ k) (overflow f))
  where
    go : (b : Bool) → T (le plus_zero (cond b (odd (suc (prec f)) false q k (low f)) (inf false)))
    go true = nonneg→le (odd (suc (prec f)) false q k (low f))
        (value-nonneg (odd (suc (prec f)) false q k (low f)) (q * 2 ^ k) (2 ^ low f) (odd_sign (suc (prec f)) false q k (low f)))
    go false = tt

round-least : (f : Format) (a c : ℕ) → T (le plus_zero (round f false a c))
round-least f a c = subst (λ (z : Float). T (le plus_zero z)) (sym (round_is f false a c))
    (units-least f (kept (prec f) (a * 2 ^ low f) c) (drop (prec f) (a * 2 ^ low f) c))

nought : (m u d : ℕ) → m ≡ 0 → m * u * 2 * 1 ≤ 0 * 1 * d
nought m u d e = subst (λ (z : ℕ). z * u * 2 * 1 ≤ 0 * 1 * d) (sym e) (le_of_eq (simp zero-mul))

pub double-least : (f : Format) (x : Float) → T (le plus_zero x) → T (le plus_zero (mul f x (pow 1)))
unfolding mul le lt eq
double-least f nan h = absurd h
double-least f (inf true) h = absurd h
double-least f (inf false) h = tt
double-least f (fin false m e) h = round-least f (m * up e * (1 * 2 ^ 1)) (down e * 1)
double-least f (fin true m e) h =
    let c = down e * 1 in
    nonneg→le (round f true (m * up e * 2) c)
    (zero-nonneg (round f true (m * up e * 2) c)
    (round-held f true (m * up e * 2) c false 0 (pos 0) (held f false 0 (pos 0) (zero-fits f)) (mul-pos (down_pos e) (zero-lt-suc 0))
    (nought m (up e) c (le→nonneg (fin true m e) tt h))))
