-- `root` is the nearest value of the format (`root-nearest`), and finite where its operand is (`root-finite`), in the units of
-- `specs/Nearest.antt`. The same is proved of `round` first, at any fraction (`grid-above`, `grid-below`). Assumes nothing.
use Rattle.std.proofs.Common.{◌≡◌, ℕ, zero, suc, ◌+◌, ◌-◌, ◌*◌, ◌/◌, ◌%◌, ◌^◌, ◌<◌, ◌≤◌, Bool, true, false, not, T, leb, ◌⊎◌, sym, refl, ap}
use Rattle.std.proofs.Common.{◌∙◌, subst, inl, inr, le_trans, le_of_eq, lt_of_lt_of_le, le_of_suc-le-suc, le-add_right, lt_of_le_of_lt}
use Rattle.std.proofs.Common.{le_of_lt, lt_irrefl, mul-le-mul_right, mod-lt, mul_assoc, suc-mul, mul_comm, add-mul, mul-le-mul}
use Rattle.std.proofs.Common.{lt_of_mul-lt-mul_right, eq-or-lt_of_le, mul-le-mul_left, mul-lt-mul_of_pos_right, mul-pos, lt_of_not-le}
use Rattle.std.proofs.Common.{div-add-mod', le-div_iff_mul-le, not-le_of_lt, div-mul-le_self, le_of_mul-le-mul_right, mul_left_comm, arith}
use Rattle.std.proofs.Common.{lit<, lit≤, leb→le, pow_pos, pow_mono, pow-add, shl_lt}
use Prim.Native.Nat.{compare, Ordering}
use native.Mathlib.Nat.{eq_of_mul-eq-mul_right}
use native.Mathlib.Nat.{pow-succ'}
use lib.Dec.{nleb→lt}
use lib.Ieee.{Float, nan, inf, fin, Format, binary32, binary64, prec, emax, low, size, nearest, round, fits}
use lib.Ieee.Digits.{size_reaches}
use lib.Ieee.Fits.{nearest-le, round-fits, two, two-le_pos}
use lib.Ieee.Exact.{HasValue}
use lib.Ieee.Order.{drop}
use lib.Ieee.Nearest.{closest, nearest-ge}
use lib.Ieee.Positive.{num, den, den_pos, positive, positive_of_value, value→cross}
use lib.Ieee.Scale.{grid, overflow, round_val, round_under}
use Rattle.binary32.specs.Root.{halves, root_of, root}
use Rattle.binary32.specs.Nearest.{EveryRootNearest, EveryRootFinite}
use Rattle.binary32.proofs.Sides.{halves-above, halves-below}
use Rattle.binary32.proofs.Closest.{Cmp, cmp}
use Rattle.binary32.proofs.Rounded.{root_of-is}
use Rattle.binary32.proofs.magnitude.Round.{value-finite}

-- ---- `closest` is within a half
half : (o : Ordering) (w r b : ℕ) → Cmp o (r * 2) b → r < b
    → (2 * (nearest w o * b) ≤ 2 * (w * b + r) + b) × (2 * (w * b + r) ≤ 2 * (nearest w o * b) + b)
half Ordering.lt w r b c h = (omega arith, omega arith)
half Ordering.eq w r b c h = go (w % 2) (small w)
  where
    small : (x : ℕ) → x % 2 < 2
    small x = omega arith

    go : (d : ℕ) → d < 2 → (2 * ((w + d) * b) ≤ 2 * (w * b + r) + b) × (2 * (w * b + r) ≤ 2 * ((w + d) * b) + b)
    go zero k = let e : (w + 0) * b ≡ w * b + 0 * b = add-mul w 0 b in (omega arith, omega arith)
    go (suc zero) k = let e : (w + 1) * b ≡ w * b + 1 * b = add-mul w 1 b in (omega arith, omega arith)
    go (suc (suc d)) k = absurd (no d k)
      where
        no : (x : ℕ) → suc (suc x) < 2 → ⊥
        no x l = omega arith
half Ordering.gt w r b c h = let e : suc w * b ≡ w * b + b = suc-mul w b in (omega arith, omega arith)

pub closest-half : (a b : ℕ) → 0 < b → (2 * (closest a b * b) ≤ 2 * a + b) × (2 * a ≤ 2 * (closest a b * b) + b)
closest-half a b B =
    subst (λ (x : ℕ). (2 * (closest a b * b) ≤ 2 * x + b) × (2 * x ≤ 2 * (closest a b * b) + b)) (div-add-mod' a b)
    (half (compare (a % b * 2) b) (a / b) (a % b) b (cmp (a % b * 2) b) (mod-lt a B))

-- ---- the gaps between a format's values: m has p digits, and q has too unless k is 0
power-up : (p i k : ℕ) → 0 < p → suc i ≤ k → 2 ^ (p + i) ≤ 2 ^ (p - 1) * 2 ^ k
power-up p i k P h = le_trans (pow_mono (more p i k P h)) (le_of_eq (pow-add 2 (p - 1) k))
  where
    more : (x y z : ℕ) → 0 < x → suc y ≤ z → x + y ≤ x - 1 + z
    more x y z a b = omega arith

at-multiple : (m i k : ℕ) → k ≤ i → m * 2 ^ i ≡ m * 2 ^ (i - k) * 2 ^ k
at-multiple m i k h = ap (λ (x : ℕ). m * 2 ^ x) (sym (split i k h)) ∙ ap (λ (x : ℕ). m * x) (pow-add 2 (i - k) k)
    ∙ sym (mul_assoc m (2 ^ (i - k)) (2 ^ k))
  where
    split : (x y : ℕ) → y ≤ x → x - y + y ≡ x
    split x y g = omega arith

module _ (p k q m i : ℕ) (P : 0 < p) (M : m < 2 ^ p) where
  gap_up : (0 < k → 2 ^ (p - 1) ≤ q) → q * 2 ^ k < m * 2 ^ i → suc q * 2 ^ k ≤ m * 2 ^ i
  gap_up Q h = go (leb k i) (leb→le k i) (nleb→lt k i)
    where
      pos : (a b : ℕ) → a < b → 0 < b
      pos a b g = omega arith

      go : (t : Bool) → (T t → k ≤ i) → (T (not t) → i < k) → suc q * 2 ^ k ≤ m * 2 ^ i
      go true y n =
          let e = at-multiple m i k (y tt) in
          le_trans (mul-le-mul_right (2 ^ k) (lt_of_mul-lt-mul_right (2 ^ k) (subst (λ (x : ℕ). q * 2 ^ k < x) e h))) (le_of_eq (sym e))
      go false y n =
          let l : i < k = n tt in
          absurd (lt_irrefl (m * 2 ^ i) (lt_of_lt_of_le (shl_lt p i M)
          (le_trans (power-up p i k P l) (le_trans (mul-le-mul_right (2 ^ k) (Q (pos i k l))) (le_of_lt h)))))

  gap_down : m * 2 ^ i < q * 2 ^ k
      → (suc (m * 2 ^ (i - k)) * 2 ^ k ≤ q * 2 ^ k × m * 2 ^ i ≡ m * 2 ^ (i - k) * 2 ^ k) ⊎ ((0 < k) × (m * 2 ^ i < 2 ^ (p - 1) * 2 ^ k))
  gap_down h = go (leb k i) (leb→le k i) (nleb→lt k i)
    where
      pos : (a b : ℕ) → a < b → 0 < b
      pos a b g = omega arith

      go : (t : Bool) → (T t → k ≤ i) → (T (not t) → i < k) → (suc (m * 2 ^ (i - k)) * 2 ^ k ≤ q * 2 ^ k
          × m * 2 ^ i ≡ m * 2 ^ (i - k) * 2 ^ k) ⊎ ((0 < k) × (m * 2 ^ i < 2 ^ (p - 1) * 2 ^ k))
      go true y n =
          let e = at-multiple m i k (y tt) in
          inl (mul-le-mul_right (2 ^ k) (lt_of_mul-lt-mul_right (2 ^ k) (subst (λ (x : ℕ). x < q * 2 ^ k) e h)), e)
      go false y n =
          let l : i < k = n tt in
          inr (pos i k l, lt_of_lt_of_le (shl_lt p i M) (power-up p i k P l))

-- ---- `round`, in units: no value is nearer to the fraction a / c than the one that it chooses, `grid f a c`
over : (x p c : ℕ) → x * p * c ≡ x * (c * p)
over x p c = mul_assoc x p c ∙ ap (λ (y : ℕ). x * y) (mul_comm p c)

module _ (f : Format) (a c m i : ℕ) (C : 0 < c) (M : m < 2 ^ prec f) where
  P : 0 < prec f
  P = two-le_pos (prec f) (two f)

  full : 0 < drop (prec f) (a * 2 ^ low f) c → 2 ^ (prec f - 1) ≤ a * 2 ^ low f / (c * 2 ^ drop (prec f) (a * 2 ^ low f) c)
  full h =
      let n = a * 2 ^ low f in
      let k = drop (prec f) n c in
      let g : 2 ^ (prec f - 1 + k) ≤ n / c = size_reaches (n / c) (prec f - 1 + k) (reach (size (n / c)) (prec f) P h) in
      (le-div_iff_mul-le (mul-pos C (pow_pos k))).1
      (le_trans (le_of_eq (sym (over (2 ^ (prec f - 1)) (2 ^ k) c) ∙ ap (λ (x : ℕ). x * c) (sym (pow-add 2 (prec f - 1) k))))
      ((le-div_iff_mul-le C).0 g))
    where
      reach : (z p : ℕ) → 0 < p → 0 < z - p → p - 1 + (z - p) < z
      reach z p x y = omega arith

  pub grid-above : grid f a c < m * 2 ^ i → 2 * (a * 2 ^ low f) ≤ (grid f a c + m * 2 ^ i) * c
  grid-above h =
      let n = a * 2 ^ low f in
      let k = drop (prec f) n c in
      let u = c * 2 ^ k in
      let q = closest n u in
      let y = m * 2 ^ i in
      let b = closest-half n u (mul-pos C (pow_pos k)) in
      let g : suc q * 2 ^ k ≤ y =
      gap_up (prec f) k q m i P M (λ (z : 0 < k). le_trans (full z) (nearest-ge (n / u) (compare (n % u * 2) u))) h in
      let g' : suc q * 2 ^ k * c ≤ y * c = mul-le-mul_right c g in
      let e1 : suc q * 2 ^ k * c ≡ suc q * u = over (suc q) (2 ^ k) c in
      let e2 : q * 2 ^ k * c ≡ q * u = over q (2 ^ k) c in
      let e3 : suc q * u ≡ q * u + u = suc-mul q u in
      let e4 : (q * 2 ^ k + y) * c ≡ q * 2 ^ k * c + y * c = add-mul (q * 2 ^ k) y c in
      sums (2 * n) (q * u) u (suc q * u) (suc q * 2 ^ k * c) (y * c) (q * 2 ^ k * c) ((q * 2 ^ k + y) * c) b.1 g' e1 e2 e3 e4
    where
      sums : (n2 qu u su s yc qc t : ℕ) → n2 ≤ 2 * qu + u → s ≤ yc → s ≡ su → qc ≡ qu → su ≡ qu + u → t ≡ qc + yc → n2 ≤ t
      sums n2 qu u su s yc qc t h1 h2 h3 h4 h5 h6 = omega arith

  pub grid-below : m * 2 ^ i < grid f a c → (grid f a c + m * 2 ^ i) * c ≤ 2 * (a * 2 ^ low f)
  grid-below h =
      let n = a * 2 ^ low f in
      let k = drop (prec f) n c in
      let u = c * 2 ^ k in
      let q = closest n u in
      let w = n / u in
      let y = m * 2 ^ i in
      let b = closest-half n u (mul-pos C (pow_pos k)) in
      let e2 : q * 2 ^ k * c ≡ q * u = over q (2 ^ k) c in
      let e4 : (q * 2 ^ k + y) * c ≡ q * 2 ^ k * c + y * c = add-mul (q * 2 ^ k) y c in
      elim (gap_down (prec f) k q m i P M h) [
        | inl z ↦
            let t = m * 2 ^ (i - k) in
            let e5 : y * c ≡ t * u = ap (λ (x : ℕ). x * c) z.1 ∙ over t (2 ^ k) c in
            let g : suc t * u ≤ q * u =
            le_trans (le_of_eq (sym (over (suc t) (2 ^ k) c))) (le_trans (mul-le-mul_right c z.0) (le_of_eq e2)) in
            lattice (2 * n) (q * u) u (suc t * u) (t * u) (y * c) (q * 2 ^ k * c) ((q * 2 ^ k + y) * c) b.0 g (suc-mul t u) e5 e2 e4
        | inr z ↦
            let g : y * c ≤ w * u = le_trans (mul-le-mul_right c (le_trans (le_of_lt z.1) (mul-le-mul_right (2 ^ k) (full z.0))))
            (le_of_eq (over w (2 ^ k) c)) in
            elim (eq-or-lt_of_le (nearest-le w (compare (n % u * 2) u))) [
              | inl s ↦ next (2 * n) (q * u) (suc w * u) (w * u) u (y * c) (q * 2 ^ k * c) ((q * 2 ^ k + y) * c) b.0 g
                  (ap (λ (x : ℕ). x * u) s) (suc-mul w u) e2 e4
              | inr s ↦ whole n (q * u) (w * u) (y * c) (q * 2 ^ k * c) ((q * 2 ^ k + y) * c) (div-mul-le_self n u) g
                  (mul-le-mul_right u (le_of_suc-le-suc s)) e2 e4
            ]
      ]
    where
      lattice : (n2 qu u su tu yc qc t : ℕ) → 2 * qu ≤ n2 + u → su ≤ qu → su ≡ tu + u → yc ≡ tu → qc ≡ qu → t ≡ qc + yc → t ≤ n2
      lattice n2 qu u su tu yc qc t h1 h2 h3 h4 h5 h6 = omega arith

      next : (n2 qu su wu u yc qc t : ℕ) → 2 * qu ≤ n2 + u → yc ≤ wu → qu ≡ su → su ≡ wu + u → qc ≡ qu → t ≡ qc + yc → t ≤ n2
      next n2 qu su wu u yc qc t h1 h2 h3 h4 h5 h6 = omega arith

      whole : (n qu wu yc qc t : ℕ) → wu ≤ n → yc ≤ wu → qu ≤ wu → qc ≡ qu → t ≡ qc + yc → t ≤ 2 * n
      whole n qu wu yc qc t h1 h2 h3 h4 h5 = omega arith

-- ---- the root
-- a root that is rounded is a value that the format holds
pub root_of-fits : (f : Format) (a c : ℕ) → T (fits f (root_of f a c))
unfolding root_of
root_of-fits f a c = let h = 2 ^ suc (low f) in round-fits f false (halves (a * c * (h * h))) (2 * (c * h))

pub root-positive : (f : Format) (x : Float) → T (positive x) → root f x ≡ root_of f (num x) (den x)
unfolding root
root-positive f nan p = absurd p
root-positive f (inf s) p = absurd p
root-positive f (fin true m e) p = absurd p
root-positive f (fin false zero e) p = absurd p
root-positive f (fin false (suc m) e) p = refl

pub value-one : (x : Float) (a b c : ℕ) → HasValue x false a c → HasValue x false b c → a ≡ b
value-one x a b c h k = eq_of_mul-eq-mul_right (den x) (den_pos x) a b (sym (value→cross x a c h) ∙ value→cross x b c k)

-- with l for 2 ^ low, s for the sum of the two values, and a / c for x: from what `round` compares to what is under the root
under : (a c l X : ℕ) → a * l ≡ X * c → a * c * (2 * l * (2 * l)) ≡ 4 * (X * l) * (c * c)
under a c l X e =
    let d : a * c * (2 * l * (2 * l)) ≡ 4 * (a * l * (c * l)) = ap (λ (x : ℕ). a * c * x) (four l) ∙ simp (mul_assoc, mul_left_comm) in
    d ∙ ap (λ (x : ℕ). 4 * (x * (c * l))) e ∙ simp (mul_assoc, mul_comm, mul_left_comm)
  where
    four : (x : ℕ) → 2 * x * (2 * x) ≡ 4 * (x * x)
    four x = mul_assoc 2 x (2 * x) ∙ ap (λ (y : ℕ). 2 * y) (mul_left_comm x 2 x) ∙ sym (mul_assoc 2 2 (x * x))

denominator : (s c l : ℕ) → s * (2 * (c * (2 * l))) ≡ 2 * (2 * (s * c)) * l
denominator s c l = simp (mul_assoc, mul_left_comm)

squared : (s c : ℕ) → s * c * (s * c) ≡ s * s * (c * c)
squared s c = simp (mul_assoc, mul_left_comm)

halve : (a b : ℕ) → 2 * a ≤ 2 * b → a ≤ b
halve a b h = omega arith

module _ (a c l X s : ℕ) (C : 0 < c) (L : 0 < l) (e : a * l ≡ X * c) where
  from-above : 2 * (halves (a * c * (2 * l * (2 * l))) * l) ≤ s * (2 * (c * (2 * l))) → 4 * (X * l) ≤ s * s
  from-above h =
      let N = a * c * (2 * l * (2 * l)) in
      let g : halves N ≤ 2 * (s * c) =
      halve (halves N) (2 * (s * c))
      (le_of_mul-le-mul_right (le_trans (le_of_eq (mul_assoc 2 (halves N) l)) (le_trans h (le_of_eq (denominator s c l)))) L) in
      let k : N ≤ s * c * (s * c) =
      le_of_suc-le-suc (lt_of_not-le (λ (z : s * c * (s * c) < N). not-le_of_lt (halves-above N (s * c) z) g)) in
      le_of_mul-le-mul_right (le_trans (le_of_eq (sym (under a c l X e))) (le_trans k (le_of_eq (squared s c)))) (mul-pos C C)

  from-below : s * (2 * (c * (2 * l))) ≤ 2 * (halves (a * c * (2 * l * (2 * l))) * l) → s * s ≤ 4 * (X * l)
  from-below h =
      let N = a * c * (2 * l * (2 * l)) in
      let g : 2 * (s * c) ≤ halves N =
      halve (2 * (s * c)) (halves N) (le_of_mul-le-mul_right
      (le_trans (le_of_eq (sym (denominator s c l))) (le_trans h (le_of_eq (sym (mul_assoc 2 (halves N) l))))) L) in
      let k : s * c * (s * c) ≤ N =
      le_of_suc-le-suc (lt_of_not-le (λ (z : N < s * c * (s * c)). not-le_of_lt (halves-below N (s * c) z) g)) in
      le_of_mul-le-mul_right (le_trans (le_of_eq (sym (squared s c))) (le_trans k (le_of_eq (under a c l X e)))) (mul-pos C C)

-- the number that `root` hands to `round`, and over what
abbrev above : Format → Float → ℕ
above f x = halves (num x * den x * (2 * 2 ^ low f * (2 * 2 ^ low f)))

abbrev over-what : Format → Float → ℕ
over-what f x = 2 * (den x * (2 * 2 ^ low f))

over-pos : (f : Format) (x : Float) → 0 < over-what f x
over-pos f x = mul-pos (pow_pos 1) (mul-pos (den_pos x) (mul-pos (pow_pos 1) (pow_pos (low f))))

root-round : (f : Format) (x : Float) (X : ℕ) → 0 < X → HasValue x false X (2 ^ low f)
    → root f x ≡ round f false (above f x) (over-what f x)
root-round f x X P v =
    root-positive f x (positive_of_value x X (2 ^ low f) v P)
    ∙ root_of-is f (num x) (den x)
    ∙ ap (λ (h : ℕ). round f false (halves (num x * den x * (h * h))) (2 * (den x * h))) (pow-succ' 2 (low f))

-- The exact root, that of X * l, compared with the middle (R + Y) / 2 of the result R and any other value Y = m * 2 ^ i: both sides are
-- doubled and squared.
middle : (f : Format) (x : Float) (X R m i : ℕ) → 0 < X → HasValue x false X (2 ^ low f) → HasValue (root f x) false R (2 ^ low f)
    → m < 2 ^ prec f
    → (R < m * 2 ^ i → 4 * (X * 2 ^ low f) ≤ (R + m * 2 ^ i) * (R + m * 2 ^ i))
    × (m * 2 ^ i < R → (R + m * 2 ^ i) * (R + m * 2 ^ i) ≤ 4 * (X * 2 ^ low f))
middle f x X R m i P v r M =
    let l = 2 ^ low f in
    let n = above f x in
    let d = over-what f x in
    let D = over-pos f x in
    let r' : HasValue (round f false n d) false R l = subst (λ (z : Float). HasValue z false R l) (root-round f x X P v) r in
    let e : grid f n d ≡ R = value-one (round f false n d) (grid f n d) R l
    (round_val f n d (round_under f n d (value-finite (round f false n d) false R l r'))) r' in
    let cross : num x * l ≡ X * den x = value→cross x X l v in
    let y = m * 2 ^ i in
    let hi : R < y → 2 * (n * l) ≤ (R + y) * d = subst (λ (z : ℕ). z < y → 2 * (n * l) ≤ (z + y) * d) e (grid-above f n d m i D M) in
    let lo : y < R → (R + y) * d ≤ 2 * (n * l) = subst (λ (z : ℕ). y < z → (z + y) * d ≤ 2 * (n * l)) e (grid-below f n d m i D M) in (
      λ (h : R < y). from-above (num x) (den x) l X (R + y) (den_pos x) (pow_pos (low f)) cross (hi h),
      λ (h : y < R). from-below (num x) (den x) l X (R + y) (den_pos x) (pow_pos (low f)) cross (lo h),
    )

-- no value of the format is nearer than the root
pub root-nearest : EveryRootNearest
root-nearest f x X R P v r =
    record {
      above = λ m i M h. (middle f x X R m i P v r M).0 h;
      below = λ m i M h. (middle f x X R m i P v r M).1 h;
    }

-- There is such an R: the root of a finite value above zero is finite.
-- Were it `overflow` units or more, its square would be at most 4 * X * l by the above, with 1 for Y, and so less than the square of
-- `overflow`.
pub root-finite : EveryRootFinite
root-finite f x X P v B = (
  grid f (above f x) (over-what f x),
  subst (λ (z : Float). HasValue z false (grid f (above f x) (over-what f x)) (2 ^ low f)) (sym (root-round f x X P v))
      (round_val f (above f x) (over-what f x) (lt_of_not-le no)),
)
  where
    no : overflow f ≤ grid f (above f x) (over-what f x) → ⊥
    no h =
        let l = 2 ^ low f in
        let o = overflow f in
        let g = grid f (above f x) (over-what f x) in
        let big : 4 * l ≤ o = four f in
        let one : 1 * 2 ^ 0 < g = lt_of_lt_of_le (lt_of_lt_of_le (more l (pow_pos (low f))) big) h in
        let s : (g + 1 * 2 ^ 0) * (g + 1 * 2 ^ 0) ≤ 4 * (X * l) =
        from-below (num x) (den x) l X (g + 1 * 2 ^ 0) (den_pos x) (pow_pos (low f)) (value→cross x X l v)
        (grid-below f (above f x) (over-what f x) 1 0 (over-pos f x) (unit f) one) in
        let t : 4 * (X * l) ≤ X * o = le_trans (le_of_eq (mul_left_comm 4 X l)) (mul-le-mul_left X big) in
        let u : X * o < o * o = mul-lt-mul_of_pos_right B (pow_pos (low f + suc (emax f))) in
        let w : o * o ≤ (g + 1 * 2 ^ 0) * (g + 1 * 2 ^ 0) = mul-le-mul (le_trans h (le-add_right g 1)) (le_trans h (le-add_right g 1)) in
        lt_irrefl (o * o) (lt_of_le_of_lt (le_trans w (le_trans s t)) u)
      where
        four : (k : Format) → 4 * 2 ^ low k ≤ overflow k
        four binary32 = lit≤ tt
        four binary64 = lit≤ tt

        unit : (k : Format) → 1 < 2 ^ prec k
        unit binary32 = lit< tt
        unit binary64 = lit< tt

        more : (k : ℕ) → 0 < k → 1 < 4 * k
        more k q = omega arith
