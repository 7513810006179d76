-- Results that are 0 or more: a sum, a product, a square, and a point between two numbers of which neither is negative.
-- Assumes nothing.
use Rattle.std.proofs.Common.{◌≡◌, ℕ, zero, suc, ◌+◌, ◌-◌, ◌*◌, ◌^◌, ◌<◌, ◌≤◌, Bool, true, false, cond, not, ◌&&◌, T, ltb, ◌⊎◌, ℤ, pos, sym}
use Rattle.std.proofs.Common.{refl, ap, ◌∙◌, subst, inl, inr, le_trans, le_of_eq, zero-lt-suc, mul_comm, mul-pos, zero-mul, arith, ltb→lt}
use Rattle.std.proofs.Common.{pow_pos}
use native.Mathlib.Nat.{eq_of_mul-eq-mul_right}
use mathlib.Core.Bool.{beq}
use lib.Ieee.{Float, nan, inf, fin, Format, binary32, low, up, down, unlike, round, fits, sum, add, sub, mul}
use lib.Ieee.Fits.{up_pos, down_pos, and_l, sub-fits}
use lib.Ieee.Exact.{HasValue}
use lib.Ieee.Scale.{grid, finite, round_under}
use Rattle.binary32.specs.Limits.{plus_zero}
use Rattle.binary32.proofs.magnitude.Size.{Within, NonNeg, Share, pow}
use Rattle.binary32.proofs.magnitude.Round.{round-value, round-held, held, value-of-within}
use Rattle.binary32.proofs.magnitude.Laws.{within-finite}
use Rattle.binary32.proofs.magnitude.Units.{fl, fl-mono, add-units}
use Rattle.binary32.proofs.magnitude.Between.{Units, units_of, sub-units, part, between, fewer-finite, sum-le}

pub zero-fits : (f : Format) → T (fits f plus_zero)
unfolding fits
zero-fits f = tt

pub value-nonneg : (x : Float) (a c : ℕ) → HasValue x false a c → NonNeg x
value-nonneg nan a c h = absurd h
value-nonneg (inf s) a c h = absurd h
value-nonneg (fin true m e) a c h = absurd (mathlib.Core.Bool.true≢false h.0)
value-nonneg (fin false m e) a c h = tt

first-zero : (m u d : ℕ) → 0 < u → m * u * 1 ≤ 0 * 1 * d → m ≡ 0
first-zero zero u d U h = refl
first-zero (suc m) u d U h =
    absurd (native.Mathlib.Nat.not-le_of_lt (mul-pos (mul-pos (zero-lt-suc m) U) (zero-lt-suc 0)) (le_trans h (le_of_eq (zero-mul d))))

pub zero-nonneg : (x : Float) → Within plus_zero x → NonNeg x
zero-nonneg nan h = absurd h
zero-nonneg (inf s) h = absurd h
zero-nonneg (fin true m e) h = first-zero m (up e) (down e) (up_pos e) h
zero-nonneg (fin false m e) h = tt

nothing : (a c : ℕ) → a ≡ 0 → a * 1 ≤ 0 * 1 * c
nothing a c e = subst (λ (z : ℕ). z * 1 ≤ 0 * 1 * c) (sym e) (le_of_eq (simp zero-mul))

-- a rounded fraction: with a sign it has to be zero
pub round-nonneg : (f : Format) (s : Bool) (a c : ℕ) → 0 < c → (T s → a ≡ 0) → T (finite (round f s a c)) → NonNeg (round f s a c)
round-nonneg f true a c C h t =
    zero-nonneg (round f true a c) (round-held f true a c false 0 (pos 0) (held f false 0 (pos 0) (zero-fits f)) C (nothing a c (h tt)))
round-nonneg f false a c C h t = value-nonneg (round f false a c) (grid f a c) (2 ^ low f) (round-value f false a c (round_under f a c t))

-- ---- a sum
pub sum_nonneg : (f : Format) (s : Bool) (a : ℕ) (t : Bool) (b c : ℕ) → 0 < c → (T s → a ≡ 0) → (T t → b ≤ a) → T (finite (sum f s a t b c))
    → NonNeg (sum f s a t b c)
unfolding sum
sum_nonneg f s a t b c C h k u = go (beq s t) (ltb a b) (ltb→lt a b) (both s t h k) u
  where
    both : (s t : Bool) → (T s → a ≡ 0) → (T t → b ≤ a) → T (beq s t) → T s → a + b ≡ 0
    both true true h k p q = let x : a ≡ 0 = h tt in let y : b ≤ a = k tt in omega arith
    both true false h k p q = absurd p
    both false t h k p q = absurd q

    small : b ≤ a → a < b → b - a ≡ 0
    small l g = omega arith

    less : a ≡ 0 → a - b ≡ 0
    less e = omega arith

    go : (v w : Bool) → (T w → a < b) → (T v → T s → a + b ≡ 0)
        → T (finite (cond v (round f s (a + b) c) (cond w (round f t (b - a) c) (round f (s && ltb b a) (a - b) c))))
        → NonNeg (cond v (round f s (a + b) c) (cond w (round f t (b - a) c) (round f (s && ltb b a) (a - b) c)))
    go true w l m u = round-nonneg f s (a + b) c C (m tt) u
    go false true l m u = round-nonneg f t (b - a) c C (λ p. small (k p) (l tt)) u
    go false false l m u = round-nonneg f (s && ltb b a) (a - b) c C (λ p. less (h (and_l s (ltb b a) p))) u

-- NonNeg, as what a sign says
zero-if : (s : Bool) (m : ℕ) (e : ℤ) → NonNeg (fin s m e) → T s → m ≡ 0
zero-if true m e h t = h
zero-if false m e h t = absurd t

times : (m u d : ℕ) → m ≡ 0 → m * u * d ≡ 0
times m u d e = ap (λ (z : ℕ). z * u * d) e ∙ ap (λ (z : ℕ). z * d) (zero-mul u) ∙ zero-mul d

pub add-nonneg : (f : Format) (x y : Float) → NonNeg x → NonNeg y → T (finite (add f x y)) → NonNeg (add f x y)
unfolding add
add-nonneg f nan y h k t = absurd h
add-nonneg f (inf s) y h k t = absurd h
add-nonneg f (fin s m e) nan h k t = absurd k
add-nonneg f (fin s m e) (inf u) h k t = absurd k
add-nonneg f (fin s m e) (fin u n d) h k t =
    sum_nonneg f s (m * up e * down d) u (n * up d * down e) (down e * down d) (mul-pos (down_pos e) (down_pos d))
    (λ p. times m (up e) (down d) (zero-if s m e h p))
    (λ p. le_trans (le_of_eq (times n (up d) (down e) (zero-if u n d k p))) least) t
  where
    least : {z : ℕ} → 0 ≤ z
    least {z} = omega arith

-- ---- a product
pub square-nonneg : (f : Format) (x : Float) → T (finite (mul f x x)) → NonNeg (mul f x x)
unfolding mul
square-nonneg f nan t = absurd t
square-nonneg f (inf s) t = absurd t
square-nonneg f (fin true m e) t =
    round-nonneg f false (m * up e * (m * up e)) (down e * down e) (mul-pos (down_pos e) (down_pos e)) (λ p. absurd p) t
square-nonneg f (fin false m e) t =
    round-nonneg f false (m * up e * (m * up e)) (down e * down e) (mul-pos (down_pos e) (down_pos e)) (λ p. absurd p) t

pub mul-nonneg : (f : Format) (x y : Float) → NonNeg x → NonNeg y → T (finite (mul f x y)) → NonNeg (mul f x y)
unfolding mul
mul-nonneg f nan y h k t = absurd h
mul-nonneg f (inf s) y h k t = absurd h
mul-nonneg f (fin s m e) nan h k t = absurd k
mul-nonneg f (fin s m e) (inf u) h k t = absurd k
mul-nonneg f (fin s m e) (fin u n d) h k t =
    round-nonneg f (unlike s u) (m * up e * (n * up d)) (down e * down d) (mul-pos (down_pos e) (down_pos d)) (go s u h k) t
  where
    go : (s u : Bool) → NonNeg (fin s m e) → NonNeg (fin u n d) → T (unlike s u) → m * up e * (n * up d) ≡ 0
    go true true h k p = absurd p
    go true false h k p = times m (up e) (n * up d) h
    go false true h k p = mul_comm (m * up e) (n * up d) ∙ times n (up d) (m * up e) k
    go false false h k p = absurd p

-- ---- a + t * (b - a), with neither a nor b negative
-- a held value is no less than its own rounding
fl-held : (a : Float) (s : Bool) (x : ℕ) → T (fits binary32 a) → Units a s x → (fl x ≤ x) × T (finite (round binary32 false x (2 ^ 149)))
fl-held nan s x p u = absurd u
fl-held (inf t) s x p u = absurd u
fl-held (fin t m e) s x p u =
    let w : Within (fin t m e) (round binary32 false x (2 ^ 149)) =
    round-held binary32 false x (2 ^ 149) t m e (held binary32 t m e p) (pow_pos 149) (le_of_eq (sym u.1)) in
    let f : T (finite (round binary32 false x (2 ^ 149))) = within-finite (fin t m e) (round binary32 false x (2 ^ 149)) w in (
      value-of-within (fin t m e) (round binary32 false x (2 ^ 149)) s false x (fl x) (2 ^ 149) u
          (round-value binary32 false x (2 ^ 149) (round_under binary32 x (2 ^ 149) f)) (pow_pos 149) w,
      f,
    )

units-zero : (a : Float) (s : Bool) (x : ℕ) → NonNeg a → Units a s x → T s → x ≡ 0
units-zero nan s x h u t = absurd h
units-zero (inf v) s x h u t = absurd h
units-zero (fin true m e) s x h u t =
    eq_of_mul-eq-mul_right (down e) (down_pos e) x 0 (sym u.1 ∙ times m (up e) (2 ^ 149) h ∙ sym (zero-mul (down e)))
units-zero (fin false m e) s x h u t = absurd (subst (λ (v : Bool). T v) (sym u.0) t)

-- b - a, where a is x units and b is y: where it is negative it is at most a in size
abbrev Drop : ℕ → Float → Type 0
Drop x z = (u : Bool) × (d : ℕ) × Units z u d × (T u → d ≤ x)

down_by : (u : Bool) (z x w : ℕ) → z ≤ w → T (finite (round binary32 false w (2 ^ 149)))
    → (T u → (z ≤ x) × (fl x ≤ x) × T (finite (round binary32 false x (2 ^ 149)))) → Drop x (round binary32 u z (2 ^ 149))
down_by u z x w h t k =
    (u, fl z, round-value binary32 u z (2 ^ 149) (fl-mono z w h t).1, λ p. le_trans (fl-mono z x (k p).0 (k p).2).0 (k p).1)

some-less : (x y : ℕ) → x - y ≤ x + y
some-less x y = omega arith

some-less' : (x y : ℕ) → y - x ≤ x + y
some-less' x y = omega arith

flip : (x y : ℕ) → y + x ≤ x + y
flip x y = omega arith

drop_of : (s r : Bool) (x y : ℕ) → (T s → x ≡ 0) → (T r → y ≡ 0) → fl x ≤ x → T (finite (round binary32 false x (2 ^ 149)))
    → T (finite (round binary32 false (x + y) (2 ^ 149))) → Drop x (sum binary32 r y (not s) x (2 ^ 149))
unfolding sum
drop_of false false x y h k l f t = go (ltb y x)
  where
    take : x - y ≤ x
    take = omega arith

    go : (w : Bool) → Drop x (cond w (round binary32 true (x - y) (2 ^ 149)) (round binary32 false (y - x) (2 ^ 149)))
    go true = down_by true (x - y) x (x + y) (some-less x y) t (λ p. (take, l, f))
    go false = down_by false (y - x) x (x + y) (some-less' x y) t (λ p. absurd p)
drop_of false true x y h k l f t = down_by true (y + x) x (x + y) (flip x y) t (λ p. (take (k tt), l, f))
  where
    take : y ≡ 0 → y + x ≤ x
    take e = omega arith
drop_of true false x y h k l f t = down_by false (y + x) x (x + y) (flip x y) t (λ p. absurd p)
drop_of true true x y h k l f t = go (ltb y x)
  where
    take : y ≡ 0 → y - x ≤ x
    take e = omega arith

    go : (w : Bool) → Drop x (cond w (round binary32 false (x - y) (2 ^ 149)) (round binary32 (ltb x y) (y - x) (2 ^ 149)))
    go true = down_by false (x - y) x (x + y) (some-less x y) t (λ p. absurd p)
    go false = down_by (ltb x y) (y - x) x (x + y) (some-less' x y) t (λ p. (take (k tt), l, f))

no_more : (u v : Bool) (p d x : ℕ) → p ≤ d → ((u ≡ v) ⊎ (p ≡ 0)) → (T v → d ≤ x) → T u → p ≤ x
no_more u v p d x h (inl e) k t = le_trans h (k (subst (λ (w : Bool). T w) e t))
no_more u v p d x h (inr e) k t = omega arith

from-drop : (a b t : Float) (s : Bool) (x : ℕ) → Units a s x → (T s → x ≡ 0) → Drop x (sub binary32 b a) → Share t
    → T (finite (add binary32 a (mul binary32 t (sub binary32 b a)))) → NonNeg (add binary32 a (mul binary32 t (sub binary32 b a)))
from-drop a b t s x ua z d S fy =
    let m = mul binary32 t (sub binary32 b a) in
    let p = part t (sub binary32 b a) d.0 d.1 S (sub-fits binary32 b a) d.2 in
    let e = add-units binary32 a m s p.0 x p.1 (2 ^ 149) (pow_pos 149) ua p.2 in
    rw e (sum_nonneg binary32 s x p.0 p.1 (2 ^ 149) (pow_pos 149) z (no_more p.0 d.0 p.1 d.1 x p.3 p.4 d.3)
    (rw e at fy))

pub between-nonneg : (j : ℕ) (g a b t : Float) → Units g false (2 ^ (24 + j))
    → T (finite (round binary32 false (2 ^ (24 + j) + 2 ^ j) (2 ^ 149))) → T (finite (round binary32 false (2 * 2 ^ (24 + j)) (2 ^ 149)))
    → T (fits binary32 a) → T (fits binary32 b) → Within g a → Within g b → NonNeg a → NonNeg b → Share t
    → NonNeg (add binary32 a (mul binary32 t (sub binary32 b a)))
between-nonneg j g a b t is top far fa fb A B na nb S = go (units_of a fa (within-finite g a A)) (units_of b fb (within-finite g b B))
  where
    go : ((s : Bool) × (n : ℕ) × Units a s n) → ((s : Bool) × (n : ℕ) × Units b s n)
        → NonNeg (add binary32 a (mul binary32 t (sub binary32 b a)))
    go va vb =
        let X : va.1 ≤ 2 ^ (24 + j) = value-of-within g a false va.0 (2 ^ (24 + j)) va.1 (2 ^ 149) is va.2 (pow_pos 149) A in
        let Y : vb.1 ≤ 2 ^ (24 + j) = value-of-within g b false vb.0 (2 ^ (24 + j)) vb.1 (2 ^ 149) is vb.2 (pow_pos 149) B in
        let h = fl-held a va.0 va.1 fa va.2 in
        let za = units-zero a va.0 va.1 na va.2 in
        from-drop a b t va.0 va.1 va.2 za
        (rw (sub-units b a vb.0 va.0 vb.1 va.1 vb.2 va.2)
        (drop_of va.0 vb.0 va.1 vb.1 za (units-zero b vb.0 vb.1 nb vb.2) h.0 h.1
        (fewer-finite (va.1 + vb.1) (2 * 2 ^ (24 + j)) (sum-le va.1 vb.1 (2 ^ (24 + j)) X Y) far)))
        S (within-finite g (add binary32 a (mul binary32 t (sub binary32 b a))) (between j g a b t is top far fa fb A B S))

pub along-nonneg : (a b t : Float) → T (fits binary32 a) → T (fits binary32 b) → Within (pow 53) a → Within (pow 53) b → NonNeg a → NonNeg b
    → Share t → NonNeg (add binary32 a (mul binary32 t (sub binary32 b a)))
unfolding round
along-nonneg a b t = between-nonneg 178 (pow 53) a b t (refl, refl) tt tt
