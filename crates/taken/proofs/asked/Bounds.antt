-- Places and metres along a line that pass question 10: a step from one such place to another adds too little to leave the range. Assumes
-- nothing.
use Prim.Native.Nat.{ℕ, suc, ◌+◌, ◌*◌, ◌^◌, ◌≤◌, ◌<◌}
use native.Mathlib.Omega.{arith}
use mathlib.Core.Path.{◌≡◌, sym, ◌∙◌}
use mathlib.Core.Bool.{true, false, and-eq-true_iff}
use lib.IntN.{pos, negsuc}
use lib.Dec.{T, lit<, lit≤, lt→ltb, ltb→lt}
use lib.Pow.{pow_pos}
use lib.Ieee.{Float, nan, inf, fin, binary32, fits, up, down, add, mul, lt, le, eq}
use lib.Ieee.Bits.{is_true}
use lib.Ieee.Fits.{add-fits, down_pos}
use lib.Ieee.Scale.{finite}
use Rattle.binary32.specs.Arithmetic.{◌⊕◌, ◌⊖◌, ◌⊗◌, constant}
use Rattle.binary32.specs.Root.{root}
use Rattle.binary32.specs.Limits.{plus_zero, size_of}
use Rattle.binary32.proofs.magnitude.Size.{Within, NonNeg, pow}
use Rattle.binary32.proofs.magnitude.Laws.{passed, widen, within-finite, add-within, sub_within, mul-within}
use Rattle.binary32.proofs.magnitude.Round.{held}
use Rattle.binary32.proofs.magnitude.Signs.{zero-fits, add-nonneg, square-nonneg}
use Rattle.binary32.proofs.magnitude.Roots.{root-within, root-nonneg}
use Rattle.binary32.proofs.magnitude.Tests.{size→within, nonneg→le, le→nonneg}
use Rattle.plane.specs.declared.Point.{Point}
use Rattle.plane.specs.Plane.{distance}
use Rattle.calls.specs.Questions.{sized, place_fits, along_fits}
use Rattle.questions.specs.Sure.{place_most}
use Rattle.questions.proofs.Exact.{sized-tested, along_end, whole_part, small-part, along-tested}
use Rattle.std.specs.Cmp.Derive.{both_true}
use Rattle.taken.proofs.Bounds.{some_more}

-- ---- a place that passes question 10
-- 100,000,000 m, twice it, and 400,000,000 m, which is more than two such places are apart
abbrev edge : Float
edge = fin false 390625 (pos 8)

abbrev across : Float
across = fin false 390625 (pos 9)

abbrev apart : Float
apart = fin false 390625 (pos 10)

size-finite : (x : Float) → T (le (size_of x) edge) → T (finite x)
unfolding le lt eq
size-finite nan t = absurd t
size-finite (inf s) t = absurd t
size-finite (fin s m e) t = tt

coordinate : (x : Float) → sized x ≡ true → Within edge x
unfolding place_most constant
coordinate x e = let t : T (le (size_of x) edge) = passed (sized-tested x ∙ e) in size→within 390625 (pos 8) x (size-finite x t) t

gap : (a b : Float) → sized a ≡ true → sized b ≡ true → Within across (b ⊖ a)
unfolding add
gap a b A B = sub_within binary32 edge edge across b a tt (coordinate b B) (coordinate a A)

square : (u : Float) → Within across u → Within (pow 56) (u ⊗ u)
unfolding mul
square u U = mul-within binary32 across across (pow 56) u u tt U U

distance-apart : (a b : Point) → place_fits a ≡ true → place_fits b ≡ true → Within apart (distance a b) × NonNeg (distance a b)
unfolding distance place_fits add
distance-apart a b A B =
    let e = b.east ⊖ a.east in
    let n = b.north ⊖ a.north in
    let from = (and-eq-true_iff (sized a.east) (sized a.north)).0 A in
    let to = (and-eq-true_iff (sized b.east) (sized b.north)).0 B in
    let E = square e (gap a.east b.east from.0 to.0) in
    let N = square n (gap a.north b.north from.1 to.1) in
    let s = e ⊗ e ⊕ n ⊗ n in
    let S : Within (pow 57) s = add-within binary32 (pow 56) (pow 56) (pow 57) (e ⊗ e) (n ⊗ n) tt E N in
    let P : NonNeg s =
    add-nonneg binary32 (e ⊗ e) (n ⊗ n) (square-nonneg binary32 e (within-finite (pow 56) (e ⊗ e) E))
    (square-nonneg binary32 n (within-finite (pow 56) (n ⊗ n) N))
    (within-finite (pow 57) s S) in
    let R : Within apart (root binary32 s) =
    root-within binary32 390625 10 s (lit< tt, lit≤ tt, lit< tt) P
    (widen (pow 57) (fin false (390625 * 2 ^ 10 * (390625 * 2 ^ 10)) (pos 0)) s tt S) in
    (R, root-nonneg binary32 s P (within-finite apart (root binary32 s) R))

-- ---- metres along that pass it
-- the largest binary32 up to 10^16: the next is farther from it than two steps
abbrev pub farthest : Float
farthest = fin false 9313225 (pos 30)

pub record Reaches (x : Float) : Type 0 where
  pub fits : T (fits binary32 x)
  pub least : NonNeg x
  pub most : Within farthest x

below_end : (x : Float) → T (fits binary32 x) → NonNeg x → T (lt x (fin false 4656613 (pos 31))) → Within farthest x
unfolding lt
below_end nan f h t = absurd t
below_end (inf s) f h t = absurd h
below_end (fin false m (pos k)) f h t =
    whole_part m k (held binary32 false m (pos k) f).0 (ltb→lt (m * 2 ^ k * 1) (4656613 * 2 ^ 31 * 1) t)
below_end (fin false m (negsuc k)) f h t = small-part m (2 ^ suc k) (held binary32 false m (negsuc k) f).0 (pow_pos (suc k))
below_end (fin true m (pos k)) f h t = by m k h
  where
    by : (m k : ℕ) → m ≡ 0 → m * 2 ^ k * 1 ≤ 9313225 * 2 ^ 30 * 1
    by m k e = rw e (omega arith)
below_end (fin true m (negsuc k)) f h t = small-part m (2 ^ suc k) (by m h) (pow_pos (suc k))
  where
    by : (m : ℕ) → m ≡ 0 → m < 2 ^ 24
    by m e = omega arith

along-finite : (x : Float) → T (le plus_zero x) → T (lt x (fin false 4656613 (pos 31))) → T (finite x)
unfolding le lt eq
along-finite nan a b = absurd b
along-finite (inf true) a b = absurd a
along-finite (inf false) a b = absurd b
along-finite (fin s m e) a b = tt

pub along-given : (x : Float) → T (fits binary32 x) → along_fits x ≡ true → Reaches x
unfolding along_end constant
along-given x f e =
    let t = along-tested x f ∙ e in
    let a : T (le plus_zero x) = passed ((and-eq-true_iff (le plus_zero x) _).0 t).0 in
    let b : T (lt x (fin false 4656613 (pos 31))) = passed ((and-eq-true_iff (le plus_zero x) _).0 t).1 in
    let h = le→nonneg x (along-finite x a b) a in
    record { fits = f; least = h; most = below_end x f h b }

less : (m d : ℕ) → 0 < d → m * 1 ≤ 9313225 * 2 ^ 30 * d → m * 1 < 4656613 * 2 ^ 31 * d
less m d D h = omega arith

before-end : (x : Float) → Within farthest x → T (lt x (fin false 4656613 (pos 31)))
unfolding lt
before-end nan w = absurd w
before-end (inf s) w = absurd w
before-end (fin false m e) w = lt→ltb (m * up e * 1) (4656613 * 2 ^ 31 * down e) (less (m * up e) (down e) (down_pos e) w)
before-end (fin true m e) w = lt→ltb 0 (m * up e * 1 + 4656613 * 2 ^ 31 * down e) (some_more (m * up e) (down e) (down_pos e))

pub along-passes : (x : Float) → Reaches x → along_fits x ≡ true
unfolding along_end constant
along-passes x a =
    sym (along-tested x a.fits) ∙ both_true (is_true (le plus_zero x) (nonneg→le x a.least)) (is_true _ (before-end x a.most))

-- ---- the start of a line, and a step on it
pub along-start : Reaches plus_zero
along-start = record { fits = zero-fits binary32; least = tt; most = lit≤ tt }

pub along-step : (x : Float) (a b : Point) → Reaches x → place_fits a ≡ true → place_fits b ≡ true → Reaches (x ⊕ distance a b)
unfolding add
along-step x a b r A B =
    let d = distance-apart a b A B in
    let w : Within farthest (x ⊕ distance a b) = add-within binary32 farthest apart farthest x (distance a b) tt r.most d.0 in
    record {
      fits = add-fits binary32 x (distance a b);
      least =
          add-nonneg binary32 x (distance a b) r.least d.1 (within-finite farthest (x ⊕ distance a b) w);
      most = w;
    }
