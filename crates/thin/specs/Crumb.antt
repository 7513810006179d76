-- Document 01, "Crumb", the paragraph on `thin`: its rules over a list of crumbs. Nothing here knows of a buffer.
use Rattle.std.specs.Prelude.{ℕ, zero, suc, ◌-◌, ◌*◌, ◌/◌, min, Bool, true, false, List, [], ◌∷◌, length, get_or, take, leb, Float}
use Rattle.std.specs.Float.Ieee.{le}
use Rattle.binary32.specs.Arithmetic.{◌⊗◌, constant}
use Rattle.plane.specs.Plane.{off_segment}
use Rattle.crumbs.specs.declared.Crumb.{Crumb}
use Rattle.crumbs.specs.Crumb.{point}

-- "a point between not within tolerance; the search stops at the first point that strays": whether every point of `between` lies within the
-- tolerance t of the chord from a to b. A distance that is a NaN is within no tolerance.
unfoldable pub clear : Float → Crumb → Crumb → List Crumb → Bool
clear t a b [] = true
clear t a b (p ∷ between) = elim (le (off_segment (point p) (point a) (point b)) t) [ true ↦ clear t a b between | false ↦ false ]

-- "goes to the last one before an end with a point between not within tolerance": how far past its anchor a a measuring pass goes, l being
-- the points after the anchor. It can go `far`, and n ends are left to try; the next of them is far + 1 past the anchor, with far points
-- between.
unfoldable pub farther : Float → Crumb → List Crumb → ℕ → ℕ → ℕ
farther t a l far zero = far
farther t a l far (suc n) = elim (clear t a (get_or l far a) (take far l)) [ true ↦ farther t a l (suc far) n | false ↦ far ]

-- "A measuring pass tries each end from 2 to 256 past its anchor, within the line"
unfoldable pub reach : Float → Crumb → List Crumb → ℕ
reach t a l = farther t a l 1 (min 256 (length l) - 1)

-- "pass 18 halves": it goes two on, within the line
unfoldable pub two_on : Crumb → List Crumb → ℕ
two_on a l = min 2 (length l)

-- A pass keeps a crumb, goes on from it as far as `step` says, and strikes out what it passes over, k of which are still to come.
unfoldable pub pass_by : (Crumb → List Crumb → ℕ) → ℕ → List Crumb → List Crumb
pass_by step k [] = []
pass_by step zero (a ∷ l) = a ∷ pass_by step (step a l - 1) l
pass_by step (suc k) (a ∷ l) = pass_by step k l

unfoldable pub measuring_pass : Float → List Crumb → List Crumb
measuring_pass t l = pass_by (reach t) 0 l

unfoldable pub halving_pass : List Crumb → List Crumb
halving_pass l = pass_by two_on 0 l

unfoldable pub doubled : Float → Float
doubled t = t ⊗ constant 2 1

-- "T = 3C/4 rounded down"
abbrev pub target : ℕ → ℕ
target capacity = capacity * 3 / 4

-- what a thinning leaves, the tolerance of its last pass, and how many passes it made
pub record Thinning : Type 0 where
  pub left : List Crumb
  pub tolerance : Float
  pub passes : ℕ

-- "passes until at most T remain, at least one pass, tolerance doubled after each failing pass": from pass k on, n more of which may
-- measure before one halves. The halving pass is the last: `Theorems.antt` says that it leaves at most T.
unfoldable pub passes_from : ℕ → ℕ → ℕ → Float → List Crumb → Thinning
passes_from most k zero t l = record { left = halving_pass l; tolerance = t; passes = k }
passes_from most k (suc n) t l =
    elim (leb (length (measuring_pass t l)) most) [
      | true ↦ record { left = measuring_pass t l; tolerance = t; passes = k }
      | false ↦ passes_from most (suc k) n (doubled t) (measuring_pass t l)
    ]

-- "Passes 1 to 17 measure, pass 18 halves."
unfoldable pub thinning : ℕ → Float → List Crumb → Thinning
thinning capacity t l = passes_from (target capacity) 1 17 t l
