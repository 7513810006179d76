-- What each operation does to a bound on its operands' sizes. Each law over closed bounds has one test, which computes: `tt` under
-- `unfolding add` (or `mul`, `div`, `of_int`). Assumes nothing.
use Rattle.std.proofs.Common.{◌≡◌, ℕ, suc, ◌+◌, ◌-◌, ◌*◌, ◌<◌, ◌≤◌, Bool, true, false, cond, ◌&&◌, T, ltb, ℤ, pos, negsuc, nat_abs, sym}
use Rattle.std.proofs.Common.{subst, le_trans, le_of_eq, le_refl, add-le-add, mul-le-mul_right, zero-lt-suc, mul_assoc, mul_comm, add-mul}
use Rattle.std.proofs.Common.{mul-le-mul, mul-pos, mul_left_comm, arith, leb→le}
use native.Mathlib.Nat.{mul-mul-mul_comm}
use mathlib.Core.Bool.{beq}
use lib.Ieee.{Float, nan, inf, fin, Format, up, down, unlike, round, neg, sum, add, sub, mul, of_int}
use lib.Ieee.Fits.{down_pos}
use lib.Ieee.Scale.{finite}
use lib.Ieee.Positive.{through}
use Rattle.binary32.specs.Limits.{size_of}
use Rattle.binary32.proofs.magnitude.Size.{Within, within}
use Rattle.binary32.proofs.magnitude.Round.{round-within}

-- a parameter's fit, as a function's proof has it: `passed c.good.0.1` for the first parameter, `passed c.good.1.0.1` for the
-- second
pub passed : {b : Bool} → b ≡ true → T b
passed e = subst (λ (x : Bool). T x) (sym e) tt

-- ---- the relation
pub test→within : (b x : Float) → T (within b x) → Within b x
test→within nan x t = absurd t
test→within (inf s) x t = absurd t
test→within (fin s n d) nan t = absurd t
test→within (fin s n d) (inf u) t = absurd t
test→within (fin s n d) (fin u m e) t = leb→le (m * up e * down d) (n * up d * down e) t

pub within-refl : (x : Float) → T (finite x) → Within x x
within-refl nan t = absurd t
within-refl (inf s) t = absurd t
within-refl (fin s m e) t = le_refl (m * up e * down e)

pub within-trans : (a b x : Float) → Within a b → Within b x → Within a x
within-trans nan b x h k = absurd h
within-trans (inf s) b x h k = absurd h
within-trans (fin s n d) nan x h k = absurd h
within-trans (fin s n d) (inf t) x h k = absurd h
within-trans (fin s n d) (fin t m e) nan h k = absurd k
within-trans (fin s n d) (fin t m e) (inf u) h k = absurd k
within-trans (fin s n d) (fin t m e) (fin u l g) h k = through (l * up g) (m * up e) (n * up d) (down g) (down e) (down d) (down_pos e) k h

-- a wider bound, both written out
pub widen : (a b x : Float) → T (within b a) → Within a x → Within b x
widen a b x t h = within-trans b a x (test→within b a t) h

pub within-finite : (b x : Float) → Within b x → T (finite x)
within-finite nan x h = absurd h
within-finite (inf s) x h = absurd h
within-finite (fin s n d) nan h = absurd h
within-finite (fin s n d) (inf t) h = absurd h
within-finite (fin s n d) (fin t m e) h = tt

pub sized : (x : Float) → T (finite x) → Within x (size_of x) × Within (size_of x) x
sized nan t = absurd t
sized (inf s) t = absurd t
sized (fin s m e) t = (le_refl (m * up e * down e), le_refl (m * up e * down e))

-- ---- neg
pub neg-within : (b x : Float) → Within b x → Within b (neg x)
unfolding neg
neg-within nan x h = absurd h
neg-within (inf s) x h = absurd h
neg-within (fin s n d) nan h = absurd h
neg-within (fin s n d) (inf t) h = absurd h
neg-within (fin s n d) (fin t m e) h = h

-- ---- add, sub
pub cond-within : (g : Float) (b : Bool) (x y : Float) → Within g x → Within g y → Within g (cond b x y)
cond-within g true x y h k = h
cond-within g false x y h k = k

less : (a b c : ℕ) → (b - a) ≤ a + b
less a b c = omega arith

less' : (a b : ℕ) → (a - b) ≤ a + b
less' a b = omega arith

-- ±a / c + ±b / c, where (a + b) / c is at most p / q
pub sum-within : (f : Format) (s : Bool) (a : ℕ) (t : Bool) (b c p q : ℕ) → 0 < c → 0 < q → (a + b) * q ≤ p * c
    → T (finite (round f false p q)) → Within (round f false p q) (sum f s a t b c)
unfolding sum
sum-within f s a t b c p q C Q h u =
    cond-within (round f false p q) (beq s t) (round f s (a + b) c)
    (cond (ltb a b) (round f t (b - a) c) (round f (s && ltb b a) (a - b) c))
    (round-within f s (a + b) c p q C Q h u)
    (cond-within (round f false p q) (ltb a b) (round f t (b - a) c) (round f (s && ltb b a) (a - b) c)
    (round-within f t (b - a) c p q C Q (le_trans (mul-le-mul_right q (less a b c)) h) u)
    (round-within f (s && ltb b a) (a - b) c p q C Q (le_trans (mul-le-mul_right q (less' a b)) h) u))

frac-add : (x xd y yd b bd c cd : ℕ) → x * bd ≤ b * xd → y * cd ≤ c * yd → (x * yd + y * xd) * (bd * cd) ≤ (b * cd + c * bd) * (xd * yd)
frac-add x xd y yd b bd c cd h k =
    let p : x * yd * (bd * cd) ≤ b * cd * (xd * yd) = le_trans (le_of_eq (mul-mul-mul_comm x yd bd cd))
    (le_trans (mul-le-mul_right (yd * cd) h) (le_of_eq (simp (mul_assoc, mul_comm, mul_left_comm)))) in
    let q : y * xd * (bd * cd) ≤ c * bd * (xd * yd) = le_trans (le_of_eq (simp (mul_assoc, mul_comm, mul_left_comm)))
    (le_trans (mul-le-mul_right (xd * bd) k) (le_of_eq (simp (mul_assoc, mul_comm, mul_left_comm)))) in
    le_trans (le_of_eq (add-mul (x * yd) (y * xd) (bd * cd)))
    (le_trans (add-le-add p q) (le_of_eq (sym (add-mul (b * cd) (c * bd) (xd * yd)))))

-- a bound for a sum: the sum of the bounds, rounded
pub add-sizes : (f : Format) (b c x y : Float) → T (finite (add f (size_of b) (size_of c))) → Within b x → Within c y
    → Within (add f (size_of b) (size_of c)) (add f x y)
unfolding add sum
add-sizes f nan c x y t h k = absurd h
add-sizes f (inf s) c x y t h k = absurd h
add-sizes f (fin s n d) c nan y t h k = absurd h
add-sizes f (fin s n d) c (inf u) y t h k = absurd h
add-sizes f (fin s n d) nan (fin u m e) y t h k = absurd k
add-sizes f (fin s n d) (inf v) (fin u m e) y t h k = absurd k
add-sizes f (fin s n d) (fin v p r) (fin u m e) nan t h k = absurd k
add-sizes f (fin s n d) (fin v p r) (fin u m e) (inf w) t h k = absurd k
add-sizes f (fin s n d) (fin v p r) (fin u m e) (fin w l g) t h k =
    sum-within f u (m * up e * down g) w (l * up g * down e) (down e * down g) (n * up d * down r + p * up r * down d) (down d * down r)
    (mul-pos (down_pos e) (down_pos g)) (mul-pos (down_pos d) (down_pos r))
    (frac-add (m * up e) (down e) (l * up g) (down g) (n * up d) (down d) (p * up r) (down r) h k) t

-- with all three bounds written out
pub add-within : (f : Format) (b c g x y : Float) → T (within g (add f (size_of b) (size_of c))) → Within b x → Within c y
    → Within g (add f x y)
add-within f b c g x y t h k =
    let w = test→within g (add f (size_of b) (size_of c)) t in
    within-trans g (add f (size_of b) (size_of c)) (add f x y) w
    (add-sizes f b c x y (within-finite g (add f (size_of b) (size_of c)) w) h k)

pub sub_within : (f : Format) (b c g x y : Float) → T (within g (add f (size_of b) (size_of c))) → Within b x → Within c y
    → Within g (sub f x y)
unfolding sub
sub_within f b c g x y t h k = add-within f b c g x (neg y) t h (neg-within c y k)

-- ---- mul
frac-mul : (x xd y yd b bd c cd : ℕ) → x * bd ≤ b * xd → y * cd ≤ c * yd → x * y * (bd * cd) ≤ b * c * (xd * yd)
frac-mul x xd y yd b bd c cd h k =
    le_trans (le_of_eq (mul-mul-mul_comm x y bd cd)) (le_trans (mul-le-mul h k) (le_of_eq (mul-mul-mul_comm b xd c yd)))

pub mul-sizes : (f : Format) (b c x y : Float) → T (finite (mul f (size_of b) (size_of c))) → Within b x → Within c y
    → Within (mul f (size_of b) (size_of c)) (mul f x y)
unfolding mul
mul-sizes f nan c x y t h k = absurd h
mul-sizes f (inf s) c x y t h k = absurd h
mul-sizes f (fin s n d) c nan y t h k = absurd h
mul-sizes f (fin s n d) c (inf u) y t h k = absurd h
mul-sizes f (fin s n d) nan (fin u m e) y t h k = absurd k
mul-sizes f (fin s n d) (inf v) (fin u m e) y t h k = absurd k
mul-sizes f (fin s n d) (fin v p r) (fin u m e) nan t h k = absurd k
mul-sizes f (fin s n d) (fin v p r) (fin u m e) (inf w) t h k = absurd k
mul-sizes f (fin s n d) (fin v p r) (fin u m e) (fin w l g) t h k =
    round-within f (unlike u w) (m * up e * (l * up g)) (down e * down g) (n * up d * (p * up r)) (down d * down r)
    (mul-pos (down_pos e) (down_pos g)) (mul-pos (down_pos d) (down_pos r))
    (frac-mul (m * up e) (down e) (l * up g) (down g) (n * up d) (down d) (p * up r) (down r) h k) t

pub mul-within : (f : Format) (b c g x y : Float) → T (within g (mul f (size_of b) (size_of c))) → Within b x → Within c y
    → Within g (mul f x y)
mul-within f b c g x y t h k =
    let w = test→within g (mul f (size_of b) (size_of c)) t in
    within-trans g (mul f (size_of b) (size_of c)) (mul f x y) w
    (mul-sizes f b c x y (within-finite g (mul f (size_of b) (size_of c)) w) h k)

-- ---- an integer, rounded
pub of_int-within : (f : Format) (g : Float) (n : ℕ) (z : ℤ) → T (within g (of_int f (pos n))) → nat_abs z ≤ n → Within g (of_int f z)
unfolding of_int
of_int-within f g n (pos k) t h =
    let w = test→within g (round f false n 1) t in
    within-trans g (round f false n 1) (round f false k 1) w
    (round-within f false k 1 n 1 (zero-lt-suc 0) (zero-lt-suc 0) (mul-le-mul_right 1 h) (within-finite g (round f false n 1) w))
of_int-within f g n (negsuc k) t h =
    let w = test→within g (round f false n 1) t in
    within-trans g (round f false n 1) (round f true (suc k) 1) w
    (round-within f true (suc k) 1 n 1 (zero-lt-suc 0) (zero-lt-suc 0) (mul-le-mul_right 1 h) (within-finite g (round f false n 1) w))
