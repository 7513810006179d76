-- How large the numbers of a ride are, and what the questions make of them. Assumes nothing.
use Prim.Native.Nat.{ℕ, suc, ◌+◌, ◌*◌, ◌^◌, ◌≤◌, ◌<◌}
use native.Mathlib.Nat.{lt_of_le_of_lt, mul-le-mul_right}
use native.Mathlib.Omega.{arith}
use mathlib.Core.Path.{◌≡◌, sym, ◌∙◌}
use mathlib.Core.Bool.{true, false}
use lib.IntN.{ℤ, pos}
use lib.Dec.{T, leb, lit<, lit≤, lt→ltb, le→leb}
use lib.Ieee.{Float, nan, inf, fin, binary32, fits, up, down, lt, le}
use lib.Ieee.Bits.{is_true}
use lib.Ieee.Fits.{add-fits, down_pos}
use Rattle.binary32.specs.Arithmetic.{◌⊕◌, constant}
use Rattle.binary32.specs.Limits.{plus_zero, size_of}
use Rattle.binary32.proofs.magnitude.Size.{Within, within, NonNeg, Share, pow, frac}
use Rattle.binary32.proofs.magnitude.Laws.{widen, within-trans, within-finite, sized as sizes}
use Rattle.binary32.proofs.magnitude.Round.{Held}
use Rattle.binary32.proofs.magnitude.More.{add_step}
use Rattle.binary32.proofs.magnitude.Between.{along-between}
use Rattle.binary32.proofs.magnitude.Signs.{add-nonneg, along-nonneg, zero-fits}
use Rattle.binary32.proofs.magnitude.Tests.{within→le, nonneg→le}
use Rattle.plane.specs.declared.Point.{Point}
use Rattle.plane.specs.Plane.{distance, between}
use Rattle.plane.proofs.Place.{Coordinate, Place}
use Rattle.plane.proofs.Places.{distance-within}
use Rattle.calls.specs.Questions.{sized, place_fits, up_to, along_fits, factor_fits}
use Rattle.questions.specs.Sure.{place_most}
use Rattle.questions.proofs.Exact.{sized-tested, along_end, along-tested}

-- ---- metres along a line
-- a binary32 from 0 up to the bound
pub record Along (bound x : Float) : Type 0 where
  pub fits : T (fits binary32 x)
  pub least : NonNeg x
  pub most : Within bound x

-- i steps of at most 2^27 m
abbrev pub steps : ℕ → Float
steps i = fin false i (pos 27)

-- what is said of an along wherever it comes from
abbrev pub far : Float
far = pow 53

pub along-start : Along (steps 0) plus_zero
along-start = record { fits = zero-fits binary32; least = tt; most = lit≤ tt }

steps-held : (i : ℕ) → i < 4096 → Held binary32 (suc i) (pos 27)
steps-held i few = (omega arith, lit≤ tt, lt_of_le_of_lt (mul-le-mul_right (2 ^ 27) few) (lit< tt))

pub along-step : (i : ℕ) (x : Float) (a b : Point) → i < 4096 → Along (steps i) x → Place a → Place b
    → Along (steps (suc i)) (x ⊕ distance a b)
along-step i x a b few along A B =
    let d = distance-within a b A B in
    let w : Within (steps (suc i)) (x ⊕ distance a b) = add_step binary32 i 27 x (distance a b) (steps-held i few) along.most d.0 in
    record {
      fits = add-fits binary32 x (distance a b);
      least = add-nonneg binary32 x (distance a b) along.least d.1 (within-finite (steps (suc i)) (x ⊕ distance a b) w);
      most = w;
    }

pub along-far : (i : ℕ) (x : Float) → i ≤ 4096 → Along (steps i) x → Along far x
along-far i x few along =
    let w : Within far (steps i) = omega arith in
    record { fits = along.fits; least = along.least; most = within-trans far (steps i) x w along.most }

pub along-share : (t a b : Float) → Share t → Along far a → Along far b → Along far (between t a b)
unfolding between
along-share t a b s A B =
    record {
      fits = add-fits binary32 a _;
      least = along-nonneg a b t A.fits B.fits A.most B.most A.least B.least s;
      most = along-between a b t A.fits B.fits A.most B.most s;
    }

-- ---- what the questions say of them
less : (m d : ℕ) → 0 < d → m * 1 ≤ 1 * 2 ^ 53 * d → m * 1 < 4656613 * 2 ^ 31 * d
less m d D h = omega arith

pub some_more : (m d : ℕ) → 0 < d → 0 < m * 1 + 4656613 * 2 ^ 31 * d
some_more m d D = omega arith

below_end : (x : Float) → Within far x → T (lt x (fin false 4656613 (pos 31)))
unfolding lt
below_end nan w = absurd w
below_end (inf s) w = absurd w
below_end (fin false m e) w = lt→ltb (m * up e * 1) (4656613 * 2 ^ 31 * down e) (less (m * up e) (down e) (down_pos e) w)
below_end (fin true m e) w = lt→ltb 0 (m * up e * 1 + 4656613 * 2 ^ 31 * down e) (some_more (m * up e) (down e) (down_pos e))

pub along-fits : (x : Float) → Along far x → along_fits x ≡ true
unfolding along_end constant
along-fits x a = sym (along-tested x a.fits) ∙ rw (is_true (le plus_zero x) (nonneg→le x a.least)) (is_true _ (below_end x a.most))

-- a bound that is written out, and a wider one
size_fits : (b : Float) (n : ℕ) (d : ℤ) (x : Float) → T (within (fin false n d) b) → Within b x → le (size_of x) (fin false n d) ≡ true
size_fits b n d x t w =
    is_true (le (size_of x) (fin false n d))
    (within→le n d (size_of x) (widen b (fin false n d) (size_of x) t (within-trans b x (size_of x) w (sizes x (within-finite b x w)).0))).0

coordinate-sized : (x : Float) → Coordinate x → sized x ≡ true
unfolding place_most constant
coordinate-sized x c = sym (sized-tested x) ∙ size_fits (pow 25) 390625 (pos 8) x tt c.1

pub place-fits : (p : Point) → Place p → place_fits p ≡ true
unfolding place_fits
place-fits p P = rw (coordinate-sized p.east P.east) (coordinate-sized p.north P.north)

under : (y d : ℕ) → y * 2 ^ 6 ≤ 1 * 1 * d → y * 100 ≤ 2 * d
under y d h = omega arith

pub factor-fits : (x : Float) → Within (frac 5) x → factor_fits x ≡ true
unfolding factor_fits up_to
factor-fits nan w = absurd w
factor-fits (inf s) w = absurd w
factor-fits (fin s m e) w = is_true (leb (m * up e * 100) (2 * down e)) (le→leb (m * up e * 100) (2 * down e) (under (m * up e) (down e) w))
