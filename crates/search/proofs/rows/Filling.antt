-- Rows of segments: the squares worked out so far, and the least of those looked at. Assumes nothing.
use Prim.Native.Nat.{ℕ, ◌+◌, ◌≤◌, ◌<◌}
use mathlib.Core.Path.{◌≡◌, refl, sym, ap, ◌∙◌, subst}
use mathlib.Core.Bool.{Bool, true, false, cond, true≢false}
use mathlib.Core.List.{List}
use native.Mathlib.Omega.{arith}
use native.Mathlib.Decide.{ℕ_discrete}
use lib.Dec.{T}
use lib.ListN.{length, get_or, set, length-set}
use lib.Seq.{get_or-set_same, get_or-set_other}
use lib.Ieee.{Float, binary32, nan, fits, lt}
use Rattle.binary32.proofs.roots.Order.{lt_irrefl, le-lt, less-at-most}
use Rattle.plane.specs.declared.Point.{Point}
use Rattle.crumbs.specs.declared.Crumb.{Crumb}
use Rattle.segments.specs.Square.{square_on}
use Rattle.search.specs.Rows.{row_length, SquaresFrom, lesser, LeastSoFar}

-- ---- squares: the first k of the row are worked out
pub record Worked (line : List Crumb) (p : Point) (first : ℕ) (row : List Float) (k : ℕ) : Type 0 where
  pub within : k ≤ row_length
  pub size : length row ≡ row_length
  pub each : (j : ℕ) → j < k → get_or row j nan ≡ square_on line p (first + j)

module _ {line : List Crumb} {p : Point} {first : ℕ} {row : List Float} {k : ℕ} (w : Worked line p first row k) where
  pub worked-next : {s : Float} → k < row_length → s ≡ square_on line p (first + k) → Worked line p first (set row k s) (k + 1)
  worked-next {s} h e =
      record {
        within = omega arith;
        size = length-set row k s ∙ w.size;
        each = λ j less. at j less (ℕ_discrete j k);
      }
    where
      at : (j : ℕ) → j < k + 1 → Dec (j ≡ k) → get_or (set row k s) j nan ≡ square_on line p (first + j)
      at j less (yes q) =
          ap (λ (i : ℕ). get_or (set row k s) i nan) q
          ∙ (get_or-set_same row k s nan (omega (arith, w.size)) ∙ (e ∙ ap (λ (i : ℕ). square_on line p (first + i)) (sym q)))
      at j less (no ne) = get_or-set_other row k j s nan ne ∙ w.each j (omega arith)

  pub worked-end : row_length ≤ k → SquaresFrom line p first row
  worked-end h = record { each = λ j less. w.each j (omega arith) }

-- ---- the lesser of two
pub not-less-than : (x y z : Float) → lt y z ≡ true → lt x z ≡ false → lt x y ≡ false
not-less-than x y z h k = by (lt x y) refl
  where
    by : (b : Bool) → lt x y ≡ b → b ≡ false
    by true e = absurd (true≢false (sym (le-lt x y z (less-at-most x y e) h) ∙ k))
    by false e = refl

module _ (x bar : Float) where
  lesser-itself : lt x (lesser x bar) ≡ false
  unfolding lesser
  lesser-itself = by (lt x bar) refl
    where
      by : (b : Bool) → lt x bar ≡ b → lt x (cond b x bar) ≡ false
      by true e = lt_irrefl x
      by false e = e

  lesser-carries : (y : Float) → lt y bar ≡ false → lt y (lesser x bar) ≡ false
  unfolding lesser
  lesser-carries y h = by (lt x bar) refl
    where
      by : (b : Bool) → lt x bar ≡ b → lt y (cond b x bar) ≡ false
      by true e = not-less-than y x bar e h
      by false e = h

  lesser-fits : T (fits binary32 x) → T (fits binary32 bar) → T (fits binary32 (lesser x bar))
  unfolding lesser
  lesser-fits X B = by (lt x bar)
    where
      by : (b : Bool) → T (fits binary32 (cond b x bar))
      by true = X
      by false = B

-- ---- the least of the first k numbers
pub least_start : {bar : Float} {row : List Float} → LeastSoFar bar row 0 bar
least_start = record { none = λ j h. absurd (omega arith); carried = λ x h. h; fitting = λ B F. B }

pub least-next : {bar least next : Float} {row : List Float} {k : ℕ} → LeastSoFar bar row k least → next ≡ lesser (get_or row k nan) least
    → LeastSoFar bar row (k + 1) next
least-next {bar} {least} {next} {row} {k} v e = subst (LeastSoFar bar row (k + 1)) (sym e) (
    record {
      none = λ j h. at j h (ℕ_discrete j k);
      carried = λ x h. lesser-carries (get_or row k nan) least x (v.carried x h);
      fitting = λ B F. lesser-fits (get_or row k nan) least (F k (omega arith)) (v.fitting B (λ j h. F j (omega arith)));
    })
  where
    at : (j : ℕ) → j < k + 1 → Dec (j ≡ k) → lt (get_or row j nan) (lesser (get_or row k nan) least) ≡ false
    at j h (yes q) = ap (λ (i : ℕ). lt (get_or row i nan) (lesser (get_or row k nan) least)) q ∙ lesser-itself (get_or row k nan) least
    at j h (no ne) = lesser-carries (get_or row k nan) least (get_or row j nan) (v.none j (omega arith))

pub least-end : {bar least : Float} {row : List Float} {k : ℕ} → k ≤ row_length → row_length ≤ k → LeastSoFar bar row k least
    → LeastSoFar bar row row_length least
least-end {bar} {least} {row} {k} h g v = let e : k ≡ row_length = omega arith in subst (λ n. LeastSoFar bar row n least) e v
