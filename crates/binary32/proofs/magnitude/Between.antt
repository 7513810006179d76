-- A point between two places of at most 2 ^ k in size, a + t * (b - a) with t from 0 to 1, is at most 2 ^ k in size again, each of the
-- three operations rounding once. For binary32. Rounding b - a can carry a + t * (b - a) past 2 ^ k by half the distance to the next value
-- at most, and that rounds back to 2 ^ k. Assumes nothing.
use Rattle.std.proofs.Common.{◌≡◌, ℕ, suc, ◌+◌, ◌-◌, ◌*◌, ◌^◌, ◌<◌, ◌≤◌, Bool, true, false, cond, not, ◌&&◌, T, ltb, ◌⊎◌, ℤ, pos, sym, refl}
use Rattle.std.proofs.Common.{ap, ◌∙◌, subst, inl, inr, le_trans, le_of_eq, add_comm, mul-pos, zero-mul, arith, nltb→le, pow_pos}
use native.Mathlib.Nat.{pow-succ'}
use mathlib.Core.Bool.{beq}
use lib.Ieee.{Float, nan, inf, fin, binary32, up, down, unlike, round, fits, neg, sum, add, sub, mul}
use lib.Ieee.Fits.{down_pos, sub-fits}
use lib.Ieee.Exact.{HasValue}
use lib.Ieee.Scale.{grid, finite}
use Rattle.binary32.specs.Limits.{plus_zero}
use Rattle.binary32.proofs.magnitude.Size.{Within, Share, pow}
use Rattle.binary32.proofs.magnitude.Round.{round-value, round-held, grid-le, Held, held, units-held, within-of-values}
use Rattle.binary32.proofs.magnitude.Round.{value-of-within, value-finite}
use Rattle.binary32.proofs.magnitude.Laws.{within-finite}
use Rattle.binary32.proofs.magnitude.Units.{fl, fl-near, fl-mono, fl-back, add-units}
use Rattle.binary32.proofs.magnitude.Shares.{at_most}

-- x is finite, with the sign s, and n units in size
abbrev pub Units : Float → Bool → ℕ → Type 0
Units x s n = HasValue x s n (2 ^ 149)

neg-units : (x : Float) (s : Bool) (n : ℕ) → Units x s n → Units (neg x) (not s) n
unfolding neg
neg-units nan s n h = absurd h
neg-units (inf t) s n h = absurd h
neg-units (fin t m e) s n h = (ap not h.0, h.1)

-- ---- b - a
-- either it has the sign that a has not, or b is beyond a
data Way (s : Bool) (a b : ℕ) (t : Bool) (d : ℕ) : Type 0 where
  across : t ≡ not s → d ≤ fl (a + b) → Way s a b t d
  onward : a ≤ b → d ≡ fl (b - a) → Way s a b t d

abbrev Gap : Bool → ℕ → Bool → ℕ → Float → Type 0
Gap s a t b x = (u : Bool) × (d : ℕ) × Units x u d × Way s a b u d

in_sum : (a b : ℕ) → a - b ≤ a + b
in_sum a b = omega arith

in-sum' : (a b : ℕ) → b - a ≤ a + b
in-sum' a b = omega arith

gap-round : (u : Bool) (z a b : ℕ) → z ≤ a + b → T (finite (round binary32 false (a + b) (2 ^ 149)))
    → Units (round binary32 u z (2 ^ 149)) u (fl z)
gap-round u z a b h t = round-value binary32 u z (2 ^ 149) (fl-mono z (a + b) h t).1

alike : (s v : Bool) (a b : ℕ) → T (finite (round binary32 false (a + b) (2 ^ 149)))
    → Gap s a s b (cond (ltb b a) (round binary32 (not s) (a - b) (2 ^ 149)) (round binary32 v (b - a) (2 ^ 149)))
alike s v a b t = go (ltb b a) (nltb→le b a)
  where
    go : (x : Bool) → (T (not x) → a ≤ b)
        → Gap s a s b (cond x (round binary32 (not s) (a - b) (2 ^ 149)) (round binary32 v (b - a) (2 ^ 149)))
    go true l = (not s, fl (a - b), gap-round (not s) (a - b) a b (in_sum a b) t, across refl (fl-mono (a - b) (a + b) (in_sum a b) t).0)
    go false l = (v, fl (b - a), gap-round v (b - a) a b (in-sum' a b) t, onward (l tt) refl)

unlike-signs : (s : Bool) (a b : ℕ) → T (finite (round binary32 false (a + b) (2 ^ 149)))
    → Gap s a (not s) b (round binary32 (not s) (b + a) (2 ^ 149))
unlike-signs s a b t = (
  not s,
  fl (b + a),
  gap-round (not s) (b + a) a b (le_of_eq (add_comm b a)) t,
  across refl (le_of_eq (ap (λ (z : ℕ). fl z) (add_comm b a))),
)

gap : (s r : Bool) (a b : ℕ) → T (finite (round binary32 false (a + b) (2 ^ 149))) → Gap s a r b (sum binary32 r b (not s) a (2 ^ 149))
unfolding sum
gap false false a b t = alike false (false && ltb a b) a b t
gap false true a b t = unlike-signs false a b t
gap true false a b t = unlike-signs true a b t
gap true true a b t = alike true (true && ltb a b) a b t

-- ---- a share of a held value lies between 0 and that value
nothing : (m t x d : ℕ) → m ≡ 0 → m * t * x * 1 ≤ 0 * 1 * d
nothing m t x d e = subst (λ (z : ℕ). z * t * x * 1 ≤ 0 * 1 * d) (sym e) (le_of_eq (simp (zero-mul)))

to-zero : (n : ℕ) → n ≤ 0 → n ≡ 0
to-zero n h = omega arith

abbrev Part : Bool → ℕ → Float → Type 0
Part s d x = (u : Bool) × (n : ℕ) × Units x u n × (n ≤ d) × ((u ≡ s) ⊎ (n ≡ 0))

below-held : (u : Bool) (x y : ℕ) (v : Bool) (n : ℕ) (g : ℤ) → Held binary32 n g → 0 < y → x * down g ≤ n * up g * y
    → Units (round binary32 u x y) u (grid binary32 x y) × Within (fin v n g) (round binary32 u x y)
below-held u x y v n g p Y h = (
  round-value binary32 u x y
      (grid-le binary32 x y (n * up g) (down g) Y (down_pos g) h (units-held binary32 v n g p).1).1,
  round-held binary32 u x y v n g p Y h,
)

zero-fits : T (fits binary32 plus_zero)
unfolding fits
zero-fits = tt

unlike-false : (v : Bool) → unlike false v ≡ v
unlike-false true = refl
unlike-false false = refl

pub part : (t x : Float) (s : Bool) (d : ℕ) → Share t → T (fits binary32 x) → Units x s d → Part s d (mul binary32 t x)
unfolding mul
part nan x s d h p k = absurd h
part (inf u) x s d h p k = absurd h
part (fin u m e) nan s d h p k = absurd k
part (fin u m e) (inf v) s d h p k = absurd k
part (fin false m e) (fin v n g) s d h p k =
    let x = m * up e * (n * up g) in
    let y = down e * down g in
    let u = unlike false v in
    let r = below-held u x y v n g (held binary32 v n g p) (mul-pos (down_pos e) (down_pos g))
    (at_most (m * up e) (down e) (n * up g) (down g) h) in (
      u,
      grid binary32 x y,
      r.0,
      value-of-within (fin v n g) (round binary32 u x y) s u d (grid binary32 x y) (2 ^ 149) k r.0
          (pow_pos 149) r.1,
      inl (unlike-false v ∙ k.0),
    )
part (fin true m e) (fin v n g) s d h p k =
    let x = m * up e * (n * up g) in
    let y = down e * down g in
    let u = unlike true v in
    let r = below-held u x y false 0 (pos 0) (held binary32 false 0 (pos 0) zero-fits) (mul-pos (down_pos e) (down_pos g))
    (nothing m (up e) (n * up g) y h) in
    let z : grid binary32 x y ≡ 0 = to-zero (grid binary32 x y) (value-of-within plus_zero (round binary32 u x y) false u 0
    (grid binary32 x y) (2 ^ 149) (refl, refl) r.0 (pow_pos 149) r.1) in
    (u, grid binary32 x y, r.0, subst (λ (w : ℕ). w ≤ d) (sym z) native-zero-le, inr z)
  where
    native-zero-le : {d : ℕ} → 0 ≤ d
    native-zero-le {d} = omega arith

-- ---- a plus a part of the gap
module _ (j : ℕ) (b : Float) (is : Units b false (2 ^ (24 + j)))
    (top : T (finite (round binary32 false (2 ^ (24 + j) + 2 ^ j) (2 ^ 149)))) where
  rounds : (s : Bool) (z : ℕ) → z ≤ 2 ^ (24 + j) + 2 ^ j → Within b (round binary32 s z (2 ^ 149))
  rounds s z h =
      let r = fl-back z j h top in
      within-of-values b (round binary32 s z (2 ^ 149)) false s (2 ^ (24 + j)) (fl z) (2 ^ 149) (pow_pos 149) is
      (round-value binary32 s z (2 ^ 149) r.1) r.0

  sum-rounds : (s : Bool) (x : ℕ) (t : Bool) (y : ℕ) → (T (beq s t) → x + y ≤ 2 ^ (24 + j) + 2 ^ j) → x - y ≤ 2 ^ (24 + j) + 2 ^ j
      → y - x ≤ 2 ^ (24 + j) + 2 ^ j → Within b (sum binary32 s x t y (2 ^ 149))
  unfolding sum
  sum-rounds s x t y h k l = go (beq s t) (ltb x y) h
    where
      go : (v w : Bool) → (T v → x + y ≤ 2 ^ (24 + j) + 2 ^ j) → Within b (cond v (round binary32 s (x + y) (2 ^ 149))
          (cond w (round binary32 t (y - x) (2 ^ 149)) (round binary32 (s && ltb y x) (x - y) (2 ^ 149))))
      go true w g = rounds s (x + y) (g tt)
      go false true g = rounds t (y - x) l
      go false false g = rounds (s && ltb y x) (x - y) k

crossed : (s t u : Bool) → t ≡ not s → u ≡ t → T (beq s u) → ⊥
crossed s t u e f h = go s (subst (λ (v : Bool). T (beq s v)) (f ∙ e) h)
  where
    go : (s : Bool) → T (beq s (not s)) → ⊥
    go true h = h
    go false h = h

-- x is a's size, y is b's, d the gap's and p the part's; e is 2 ^ j
within_a : (x B e : ℕ) → x ≤ B → x ≤ B + e
within_a x B e h = omega arith

less-part : (x p B e : ℕ) → x ≤ B → x - p ≤ B + e
less-part x p B e h = omega arith

past : (x y p d B e : ℕ) → y ≤ B → p ≤ d → d ≤ x + y + e → p - x ≤ B + e
past x y p d B e h k l = omega arith

on : (x y p d B e : ℕ) → x ≤ y → y ≤ B → p ≤ d → d ≤ y - x + e → x + p ≤ B + e
on x y p d B e g h k l = omega arith

on-less : (x y p d B e : ℕ) → x ≤ y → y ≤ B → p ≤ d → d ≤ y - x + e → p - x ≤ B + e
on-less x y p d B e g h k l = omega arith

no_part : (x p B e : ℕ) → x ≤ B → p ≡ 0 → x + p ≤ B + e
no_part x p B e h k = omega arith

pub sum-le : (x y B : ℕ) → x ≤ B → y ≤ B → x + y ≤ 2 * B
sum-le x y B h k = omega arith

diff-le : (x y B : ℕ) → y ≤ B → y - x ≤ 2 * B
diff-le x y B h = omega arith

double : (j : ℕ) → 2 * 2 ^ (24 + j) ≡ 2 ^ (25 + j)
double j = sym (pow-succ' 2 (24 + j)) ∙ ap (λ (x : ℕ). 2 ^ x) (shift j)
  where
    shift : (j : ℕ) → suc (24 + j) ≡ 25 + j
    shift j = omega arith

-- the whole in units: what `a` plus a part of `b - a` is
in-units : (j : ℕ) (g : Float) → Units g false (2 ^ (24 + j)) → T (finite (round binary32 false (2 ^ (24 + j) + 2 ^ j) (2 ^ 149)))
    → (s : Bool) (x y : ℕ) (t : Bool) (d : ℕ) (u : Bool) (p : ℕ) → x ≤ 2 ^ (24 + j) → y ≤ 2 ^ (24 + j) → Way s x y t d → p ≤ d
    → ((u ≡ t) ⊎ (p ≡ 0)) → Within g (sum binary32 s x u p (2 ^ 149))
in-units j g is top s x y t d u p X Y (across e l) P (inl f) =
    let B = 2 ^ (24 + j) in
    let E = 2 ^ j in
    let q : d ≤ x + y + E = le_trans l (fl-near (x + y) j (le_trans (sum-le x y B X Y) (le_of_eq (double j)))) in
    sum-rounds j g is top s x u p (λ h. absurd (crossed s t u e f h)) (less-part x p B E X) (past x y p d B E Y P q)
in-units j g is top s x y t d u p X Y (across e l) P (inr z) =
    let B = 2 ^ (24 + j) in
    let E = 2 ^ j in
    let q : d ≤ x + y + E = le_trans l (fl-near (x + y) j (le_trans (sum-le x y B X Y) (le_of_eq (double j)))) in
    sum-rounds j g is top s x u p (λ h. no_part x p B E X z) (less-part x p B E X) (past x y p d B E Y P q)
in-units j g is top s x y t d u p X Y (onward o e) P z =
    let B = 2 ^ (24 + j) in
    let E = 2 ^ j in
    let q : d ≤ y - x + E = le_trans (le_of_eq e) (fl-near (y - x) j (le_trans (diff-le x y B Y) (le_of_eq (double j)))) in
    sum-rounds j g is top s x u p (λ h. on x y p d B E o Y P q) (less-part x p B E X) (on-less x y p d B E o Y P q)

-- ---- the law, for a bound g of 2 ^ (24 + j) units
pub units_of : (x : Float) → T (fits binary32 x) → T (finite x) → (s : Bool) × (n : ℕ) × Units x s n
units_of nan f t = absurd t
units_of (inf s) f t = absurd t
units_of (fin s m e) f t = (s, grid binary32 (m * up e) (down e), (units-held binary32 s m e (held binary32 s m e f)).0)

pub fewer-finite : (z c : ℕ) → z ≤ c → T (finite (round binary32 false c (2 ^ 149))) → T (finite (round binary32 false z (2 ^ 149)))
fewer-finite z c h t =
    value-finite (round binary32 false z (2 ^ 149)) false (fl z) (2 ^ 149) (round-value binary32 false z (2 ^ 149) (fl-mono z c h t).1)

pub sub-units : (b a : Float) (r s : Bool) (y x : ℕ) → Units b r y → Units a s x → sub binary32 b a ≡ sum binary32 r y (not s) x (2 ^ 149)
unfolding sub
sub-units b a r s y x ub ua = add-units binary32 b (neg a) r (not s) y x (2 ^ 149) (pow_pos 149) ub (neg-units a s x ua)

-- from the two values in units, and the gap's
from-units : (j : ℕ) (g a b t : Float) → Units g false (2 ^ (24 + j)) → T (finite (round binary32 false (2 ^ (24 + j) + 2 ^ j) (2 ^ 149)))
    → (s r : Bool) (x y : ℕ) → Units a s x → x ≤ 2 ^ (24 + j) → y ≤ 2 ^ (24 + j) → Gap s x r y (sub binary32 b a) → Share t
    → Within g (add binary32 a (mul binary32 t (sub binary32 b a)))
from-units j g a b t is top s r x y ua X Y d S =
    let p : Part d.0 d.1 (mul binary32 t (sub binary32 b a)) =
    part t (sub binary32 b a) d.0 d.1 S (sub-fits binary32 b a) d.2 in
    rw (add-units binary32 a (mul binary32 t (sub binary32 b a)) s p.0 x p.1 (2 ^ 149) (pow_pos 149) ua p.2)
    (in-units j g is top s x y d.0 d.1 p.0 p.1 X Y d.3 p.3 p.4)

gap_of : (a b : Float) (s r : Bool) (x y : ℕ) → Units a s x → Units b r y → T (finite (round binary32 false (x + y) (2 ^ 149)))
    → Gap s x r y (sub binary32 b a)
gap_of a b s r x y ua ub far = rw (sub-units b a r s y x ub ua) (gap s r x y far)

-- top and far: neither the bound and half a last place, nor twice the bound, overflows
pub between : (j : ℕ) (g a b t : Float) → Units g false (2 ^ (24 + j)) → T (finite (round binary32 false (2 ^ (24 + j) + 2 ^ j) (2 ^ 149)))
    → T (finite (round binary32 false (2 * 2 ^ (24 + j)) (2 ^ 149)))
    → T (fits binary32 a) → T (fits binary32 b) → Within g a → Within g b → Share t
    → Within g (add binary32 a (mul binary32 t (sub binary32 b a)))
between j g a b t is top far fa fb A B S = go (units_of a fa (within-finite g a A)) (units_of b fb (within-finite g b B))
  where
    go : ((s : Bool) × (n : ℕ) × Units a s n) → ((s : Bool) × (n : ℕ) × Units b s n)
        → Within g (add binary32 a (mul binary32 t (sub binary32 b a)))
    go va vb =
        let X : va.1 ≤ 2 ^ (24 + j) = value-of-within g a false va.0 (2 ^ (24 + j)) va.1 (2 ^ 149) is va.2 (pow_pos 149) A in
        let Y : vb.1 ≤ 2 ^ (24 + j) = value-of-within g b false vb.0 (2 ^ (24 + j)) vb.1 (2 ^ 149) is vb.2 (pow_pos 149) B in
        from-units j g a b t is top va.0 vb.0 va.1 vb.1 va.2 X Y
        (gap_of a b va.0 vb.0 va.1 vb.1 va.2 vb.2
        (fewer-finite (va.1 + vb.1) (2 * 2 ^ (24 + j)) (sum-le va.1 vb.1 (2 ^ (24 + j)) X Y) far)) S

-- ---- at the bounds that are used: a place is at most 2 ^ 25 m, a distance along a line at most 2 ^ 53 m
pub place-between : (a b t : Float) → T (fits binary32 a) → T (fits binary32 b) → Within (pow 25) a → Within (pow 25) b → Share t
    → Within (pow 25) (add binary32 a (mul binary32 t (sub binary32 b a)))
unfolding round
place-between a b t = between 150 (pow 25) a b t (refl, refl) tt tt

pub along-between : (a b t : Float) → T (fits binary32 a) → T (fits binary32 b) → Within (pow 53) a → Within (pow 53) b → Share t
    → Within (pow 53) (add binary32 a (mul binary32 t (sub binary32 b a)))
unfolding round
along-between a b t = between 178 (pow 53) a b t (refl, refl) tt tt
