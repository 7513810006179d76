-- Sizes: the larger of x and 0 - x is the size of x, and the cosine's size stays small. Assumes nothing.
use mathlib.Core.Path.{◌≡◌, refl, sym, ap, ◌∙◌, subst}
use Prim.Native.Nat.{ℕ, zero, suc, ◌+◌, ◌-◌, ◌*◌, ◌/◌, ◌^◌, ◌<◌}
use native.Mathlib.Omega.{arith}
use native.Mathlib.Nat.{mul-one, one-mul, zero-mul, zero-add, sub-zero, mul-pos, mul_right_comm, zero-lt-suc}
use mathlib.Core.Bool.{Bool, true, false, not, cond}
use lib.IntN.{ℤ, pos, negsuc}
use lib.Dec.{T, ltb, lt→ltb}
use lib.Pow.{pow_pos}
use lib.Ieee as ieee
use lib.Ieee.{Float, nan, inf, fin, Format, binary32, prec, low, hid, top, up, down, round, fits, to_bits, of_bits, sum, add, sub, mul, neg}
use lib.Ieee.{lt, le}
use lib.Ieee.Fits.{up_pos, down_pos, round-fits}
use lib.Ieee.Bits.{is_true, of_bits-to_bits}
use lib.Ieee.Exact.{HasValue}
use lib.Ieee.Nearest.{div_same}
use lib.Ieee.Scale.{grid, round_under}
use Rattle.binary32.specs.Arithmetic.{◌⊕◌, ◌⊖◌, ◌⊗◌, constant}
use Rattle.binary32.specs.Limits.{size_of, one, plus_zero}
use Rattle.binary32.proofs.magnitude.Size.{Within}
use Rattle.binary32.proofs.magnitude.Laws.{passed, within-refl, widen, add-within, sub_within, mul-within}
use Rattle.binary32.proofs.magnitude.More.{sub-between}
use Rattle.binary32.proofs.magnitude.Round.{held, units-held, round-value}
use Rattle.binary32.proofs.magnitude.Tests.{size→within, past→within}
use Rattle.trig.specs.Fix.{half_pi, quarter_pi, half, cos8, cos6, cos4, sin7, sin5, sin3, near_cos, far_cos, cos, larger}

-- ---- a value that a format holds is its own rounding
-- the bit pattern of a value of n units, with the sign s
abbrev pattern : Format → Bool → ℕ → ℕ
pattern f s n = let k = ieee.size n - prec f in cond s (top f) 0 + k * hid f + n / 2 ^ k

bits : (f : Format) (x : Float) (s : Bool) (a c : ℕ) → 0 < c → HasValue x s a c → to_bits f x ≡ pattern f s (a * 2 ^ low f / c)
unfolding to_bits
bits f nan s a c p v = absurd v
bits f (inf t) s a c p v = absurd v
bits f (fin t m e) s a c p v =
    ap (λ (z : Bool). pattern f z (m * up e * 2 ^ low f / down e)) v.0
    ∙ ap (λ (n : ℕ). pattern f s n)
    (div_same (m * up e * 2 ^ low f) (down e) (a * 2 ^ low f) c (down_pos e) p
    (mul_right_comm (m * up e) (2 ^ low f) c ∙ ap (λ (n : ℕ). n * 2 ^ low f) v.1 ∙ mul_right_comm a (down e) (2 ^ low f)))

-- a number is written in one way
same : (f : Format) (x y : Float) (s : Bool) (a c : ℕ) → 0 < c → T (fits f x) → T (fits f y) → HasValue x s a c → HasValue y s a c → x ≡ y
same f x y s a c p t u v w =
    sym (of_bits-to_bits f x t) ∙ ap (λ (n : ℕ). of_bits f n) (bits f x s a c p v ∙ sym (bits f y s a c p w)) ∙ of_bits-to_bits f y u

rounded : (f : Format) (s : Bool) (m : ℕ) (e : ℤ) → T (fits f (fin s m e)) → round f s (m * up e) (down e) ≡ fin s m e
rounded f s m e t =
    let a = m * up e in
    let c = down e in
    let u = units-held f s m e (held f s m e t) in
    same f (round f s a c) (fin s m e) s (grid f a c) (2 ^ low f) (pow_pos (low f)) (round-fits f s a c) t
    (round-value f s a c (round_under f a c u.1)) u.0

-- ---- 0 - x
sum-from-zero : (f : Format) (t : Bool) (b c : ℕ) → 0 < b → sum f false 0 t b c ≡ round f t b c
unfolding sum
sum-from-zero f false b c p = ap (λ (n : ℕ). round f false n c) (zero-add b)
sum-from-zero f true b c p = rw (is_true (ltb 0 b) (lt→ltb 0 b p), sub-zero)

opposite : (s : Bool) (m : ℕ) (e : ℤ) → T (fits binary32 (fin (not s) (suc m) e)) → plus_zero ⊖ fin s (suc m) e ≡ fin (not s) (suc m) e
unfolding sub add neg
opposite s m e t = simp (zero-mul, mul-one, one-mul)
    (sum-from-zero binary32 (not s) (suc m * up e) (down e) (mul-pos (zero-lt-suc m) (up_pos e)) ∙ rounded binary32 (not s) (suc m) e t)

-- a zero has the exponent 0
zero_exponent : (s : Bool) (e : ℤ) → T (fits binary32 (fin s zero e)) → fin s zero e ≡ fin s zero (pos 0)
unfolding fits
zero_exponent s e t = same binary32 (fin s zero e) (fin s zero (pos 0)) s 0 1 (zero-lt-suc 0) t tt (refl, simp zero-mul) (refl, refl)

at_zero : (s : Bool) → larger (fin s zero (pos 0)) (plus_zero ⊖ fin s zero (pos 0)) ≡ size_of (fin s zero (pos 0))
unfolding larger sub lt
at_zero true = refl
at_zero false = refl

doubled : (a : ℕ) → 0 < a → 0 < a + a
doubled a h = omega arith

larger-by-cases : (x : Float) → T (fits binary32 x) → larger x (plus_zero ⊖ x) ≡ size_of x
unfolding larger sub add neg lt fits
larger-by-cases nan t = refl
larger-by-cases (inf true) t = refl
larger-by-cases (inf false) t = refl
larger-by-cases (fin s zero e) t = subst (λ (x : Float). larger x (plus_zero ⊖ x) ≡ size_of x) (sym (zero_exponent s e t)) (at_zero s)
larger-by-cases (fin true (suc m) e) t = ap (λ (y : Float). larger (fin true (suc m) e) y) (opposite true m e t)
larger-by-cases (fin false (suc m) e) t =
    let a = suc m * up e * down e in
    ap (λ (y : Float). larger (fin false (suc m) e) y) (opposite false m e t)
    ∙ rw (is_true (ltb 0 (a + a)) (lt→ltb 0 (a + a) (doubled a (mul-pos (mul-pos (zero-lt-suc m) (up_pos e)) (down_pos e)))), larger)

-- the size of x is the larger of x and 0 - x
pub larger-is : (x : Float) → fits binary32 x ≡ true → larger x (plus_zero ⊖ x) ≡ size_of x
larger-is x t = larger-by-cases x (passed t)

-- ---- the cosine
-- a / 2 ^ (k + 1)
abbrev pub part : ℕ → ℕ → Float
part a k = fin false a (negsuc k)

-- π/4 to the nearest, worked out
abbrev quarter : Float
quarter = part 13176795 23

near_within : (r : Float) → Within quarter r → Within (part 43 4) (near_cos r)
unfolding near_cos half cos8 cos6 cos4 add mul constant
near_within r h =
    let f = binary32 in
    let z = r ⊗ r in
    let Z : Within (part 5 2) z = mul-within f quarter quarter (part 5 2) r r tt h h in
    let a = cos8 ⊗ z in
    let A : Within (part 1 14) a = mul-within f cos8 (part 5 2) (part 1 14) cos8 z tt (within-refl cos8 tt) Z in
    let b = a ⊖ cos6 in
    let B : Within (part 1 8) b = sub_within f (part 1 14) cos6 (part 1 8) a cos6 tt A (within-refl cos6 tt) in
    let c = b ⊗ z in
    let C : Within (part 1 8) c = mul-within f (part 1 8) (part 5 2) (part 1 8) b z tt B Z in
    let d = c ⊕ cos4 in
    let D : Within (part 3 5) d = add-within f (part 1 8) cos4 (part 3 5) c cos4 tt C (within-refl cos4 tt) in
    let e = d ⊗ z in
    let E : Within (part 1 4) e = mul-within f (part 3 5) (part 5 2) (part 1 4) d z tt D Z in
    let u = e ⊗ z in
    let U : Within (part 1 4) u = mul-within f (part 1 4) (part 5 2) (part 1 4) e z tt E Z in
    let w = half ⊗ z in
    let W : Within (part 5 3) w = mul-within f half (part 5 2) (part 5 3) half z tt (within-refl half tt) Z in
    let v = u ⊖ w in
    let X : Within (part 11 4) v = sub_within f (part 1 4) (part 5 3) (part 11 4) u w tt U W in
    add-within f (part 11 4) one (part 43 4) v one tt X (within-refl one tt)

far_within : (b : Float) → Within (part 13 3) b → Within (part 15 3) (far_cos b)
unfolding far_cos sin7 sin5 sin3 add mul constant neg
far_within b h =
    let f = binary32 in
    let z = b ⊗ b in
    let Z : Within (part 11 3) z = mul-within f (part 13 3) (part 13 3) (part 11 3) b b tt h h in
    let a = sin7 ⊗ z in
    let A : Within (part 1 11) a = mul-within f sin7 (part 11 3) (part 1 11) sin7 z tt (within-refl sin7 tt) Z in
    let c = a ⊕ sin5 in
    let C : Within (part 9 9) c = add-within f (part 1 11) sin5 (part 9 9) a sin5 tt A (within-refl sin5 tt) in
    let d = c ⊗ z in
    let D : Within (part 7 9) d = mul-within f (part 9 9) (part 11 3) (part 7 9) c z tt C Z in
    let e = d ⊖ sin3 in
    let E : Within (part 3 3) e = sub_within f (part 7 9) sin3 (part 3 3) d sin3 tt D (within-refl sin3 tt) in
    let g = e ⊗ z in
    let G : Within (part 9 5) g = mul-within f (part 3 3) (part 11 3) (part 9 5) e z tt E Z in
    let u = g ⊗ b in
    let U : Within (part 1 2) u = mul-within f (part 9 5) (part 13 3) (part 1 2) g b tt G h in
    add-within f (part 1 2) (part 13 3) (part 15 3) u b tt U h

either : (g : Float) (b : Bool) (x y : Float) → (T b → Within g x) → (T (not b) → Within g y) → Within g (elim b [ true ↦ x | false ↦ y ])
either g true x y h k = h tt
either g false x y h k = k tt

-- the cosine of a value up to 13/8 in size, a little past a quarter turn, is at most 43/32 in size
pub cos-within : (r : Float) → Within (part 13 2) r → Within (part 43 4) (cos r)
unfolding cos quarter_pi half_pi constant
cos-within nan h = absurd h
cos-within (inf s) h = absurd h
cos-within (fin s m e) h =
    let a = fin false m e in
    let b = half_pi ⊖ a in
    either (part 43 4) (le a quarter) (near_cos (fin s m e)) (far_cos b)
    (λ q. near_within (fin s m e) (size→within 13176795 (negsuc 23) (fin s m e) tt q))
    (λ q. widen (part 15 3) (part 43 4) (far_cos b) tt
    (far_within b (sub-between binary32 13176795 (negsuc 22) 13176795 (negsuc 23) 13 (negsuc 2) (part 13 3) a tt tt tt tt h
    (past→within 13176795 (negsuc 23) a tt tt q))))
