-- A bound on roots as bounds on what stands under them: with the root of `lo` at most `most`, all that is at most `lo` has a root that is;
-- with the root of `hi` above `most`, all that is at least `hi` has a root that is not at most `most`. Assumes nothing.
use Rattle.std.proofs.Common.{◌≡◌, ℕ, zero, suc, ◌+◌, ◌-◌, ◌*◌, ◌/◌, ◌^◌, ◌<◌, ◌≤◌, Bool, true, false, cond, ◌&&◌, ◌||◌, T, eqb, ltb, sym}
use Rattle.std.proofs.Common.{refl, ap, ◌∙◌, subst, inl, inr, true≢false, eq-zero-or-pos, lt_of_not-le, arith, ltb-false, lt-ltb}
use borrow.Author.Tests.{eqb-false}
use lib.Ieee.{Float, nan, inf, fin, Format, prec, emax, low, up, down, size, odd, units, round, below, level, lt, eq, le, fits}
use lib.Ieee.Fits.{round_is}
use lib.Ieee.Nearest.{closest}
use Rattle.binary32.specs.Root.{root, root_of, halves}
use Rattle.binary32.proofs.roots.Order.{lt_irrefl, le-lt}
use Rattle.binary32.proofs.roots.Monotone.{clear, root-less}

-- ---- no NaN
abbrev pub real : Float → Bool
real nan = false
real (inf s) = true
real (fin s m e) = true

real-left : (x y : Float) → le x y ≡ true → T (real x)
unfolding le lt eq
real-left nan y h = absurd (true≢false (sym h))
real-left (inf s) y h = tt
real-left (fin s m e) y h = tt

pub real-right : (x y : Float) → le x y ≡ true → T (real y)
unfolding le lt eq
real-right nan y h = absurd (true≢false (sym h))
real-right (inf s) nan h = absurd (true≢false (sym h))
real-right (inf s) (inf t) h = tt
real-right (inf s) (fin t n d) h = tt
real-right (fin s m e) nan h = absurd (true≢false (sym h))
real-right (fin s m e) (inf t) h = tt
real-right (fin s m e) (fin t n d) h = tt

odd-real : (d q k l : ℕ) → T (real (odd d false q k l))
unfolding odd
odd-real d zero k l = tt
odd-real d (suc q) k l = tt

units-real : (f : Format) (q k : ℕ) → T (real (units f false q k))
unfolding units
units-real f q k = go (ltb (q * 2 ^ k) (2 ^ (low f + suc (emax f))))
  where
    go : (b : Bool) → T (real (cond b (odd (suc (prec f)) false q k (low f)) (inf false)))
    go true = odd-real (suc (prec f)) q k (low f)
    go false = tt

round-real : (f : Format) (a c : ℕ) → T (real (round f false a c))
round-real f a c = subst (λ (z : Float). T (real z)) (sym (round_is f false a c))
    (units-real f (closest (a * 2 ^ low f) (c * 2 ^ (size (a * 2 ^ low f / c) - prec f))) (size (a * 2 ^ low f / c) - prec f))

pub root-real : (f : Format) (x : Float) → T (clear x) → T (real x) → T (real (root f x))
unfolding root root_of
root-real f nan c r = absurd r
root-real f (inf true) c r = absurd c
root-real f (inf false) c r = tt
root-real f (fin true m e) c r = absurd c
root-real f (fin false zero e) c r = tt
root-real f (fin false (suc m) e) c r = let h = 2 ^ suc (low f) in
    round-real f (halves (suc m * up e * down e * (h * h))) (2 * (down e * h))

-- ---- of two numbers one is at most the other
or-false : (a b : Bool) → (a || b) ≡ false → (a ≡ false) × (b ≡ false)
or-false true b h = absurd (true≢false h)
or-false false b h = (refl, h)

more : (a b : ℕ) (c : Bool) → (ltb a b || (eqb a b && true)) ≡ false → b < a
more a b c h =
    let g = or-false (ltb a b) (eqb a b && true) h in
    let l = ltb-false a b g.0 in
    lt_of_not-le (λ (k : a ≤ b). differ (eqb a b) refl g.1 (omega arith))
  where
    differ : (t : Bool) → eqb a b ≡ t → (t && true) ≡ false → a ≡ b → ⊥
    differ true e n s = absurd (true≢false n)
    differ false e n s = eqb-false a b e s

signed : (s t : Bool) (a b : ℕ) → (below s a t b || level s a t b) ≡ false → below t b s a ≡ true
signed false false a b h = lt-ltb b a (more a b true h)
signed true true a b h =
    let g = or-false (ltb b a) (eqb a b && true) h in
    let l = ltb-false b a g.0 in
    lt-ltb a b (lt_of_not-le (λ (k : b ≤ a). differ (eqb a b) refl g.1 (omega arith)))
  where
    differ : (t : Bool) → eqb a b ≡ t → (t && true) ≡ false → a ≡ b → ⊥
    differ true e n s = absurd (true≢false n)
    differ false e n s = eqb-false a b e s
signed false true a b h = elim (eq-zero-or-pos (b + a)) [
  | inl z ↦ let u : a ≡ 0 = omega arith in let v : b ≡ 0 = omega arith in absurd (true≢false (sym (same a b u v) ∙ h))
  | inr g ↦ lt-ltb 0 (b + a) g
]
  where
    same : (a b : ℕ) → a ≡ 0 → b ≡ 0 → (eqb a b && eqb a 0) ≡ true
    same a b u v = ap (λ (k : ℕ). eqb k b && eqb k 0) u ∙ ap (λ (k : ℕ). eqb 0 k && eqb 0 0) v
signed true false a b h =
    let g = or-false (ltb 0 (a + b)) (eqb a b && eqb a 0) h in
    let l = ltb-false 0 (a + b) g.0 in
    let u : a ≡ 0 = omega arith in
    let v : b ≡ 0 = omega arith in
    absurd (true≢false (sym (same a b u v) ∙ g.1))
  where
    same : (a b : ℕ) → a ≡ 0 → b ≡ 0 → (eqb a b && eqb a 0) ≡ true
    same a b u v = ap (λ (k : ℕ). eqb k b && eqb k 0) u ∙ ap (λ (k : ℕ). eqb 0 k && eqb 0 0) v

pub not-most : (x y : Float) → T (real x) → T (real y) → le x y ≡ false → lt y x ≡ true
unfolding le lt eq
not-most nan y p q h = absurd p
not-most (inf s) nan p q h = absurd q
not-most (inf true) (inf true) p q h = absurd (true≢false h)
not-most (inf true) (inf false) p q h = absurd (true≢false h)
not-most (inf false) (inf true) p q h = refl
not-most (inf false) (inf false) p q h = absurd (true≢false h)
not-most (inf true) (fin t n d) p q h = absurd (true≢false h)
not-most (inf false) (fin t n d) p q h = refl
not-most (fin s m e) nan p q h = absurd q
not-most (fin s m e) (inf true) p q h = refl
not-most (fin s m e) (inf false) p q h = absurd (true≢false h)
not-most (fin s m e) (fin t n d) p q h = signed s t (m * up e * down d) (n * up d * down e) h

-- ---- the two bounds
pub by_cases : {A : Type 0} (b : Bool) → (b ≡ true → A) → (b ≡ false → A) → A
by_cases true f g = f refl
by_cases false f g = g refl

pub root-accept : (f : Format) (x lo most : Float) → T (fits f x) → T (fits f lo) → T (clear x) → le x lo ≡ true
    → le (root f lo) most ≡ true → le (root f x) most ≡ true
root-accept f x lo most p q c h k =
    by_cases (le (root f x) most) (λ e. e) (λ e.
    let g = not-most (root f x) most (root-real f x c (real-left x lo h)) (real-right (root f lo) most k) e in
    let l = root-less f lo x q p (le-lt (root f lo) most (root f x) k g) in
    absurd (true≢false (sym (le-lt x lo x h l) ∙ lt_irrefl x)))

pub root-reject : (f : Format) (x hi most : Float) → T (fits f x) → T (fits f hi) → le hi x ≡ true → lt most (root f hi) ≡ true
    → le (root f x) most ≡ false
root-reject f x hi most p q h k =
    by_cases (le (root f x) most) (λ e.
    let l = root-less f x hi p q (le-lt (root f x) most (root f hi) e k) in
    absurd (true≢false (sym (le-lt hi x hi h l) ∙ lt_irrefl hi))) (λ e. e)
