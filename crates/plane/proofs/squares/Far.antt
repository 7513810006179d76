-- A square has the distance as its root, is a value of the format and not below zero. Where it is not less than a bar whose root is above
-- `most`, the distance is not at most `most`. Assumes nothing.
use Rattle.std.proofs.Common.{◌≡◌, Bool, true, false, T, sym, refl, ◌∙◌, subst, true≢false}
use lib.Ieee.{Float, binary32, lt, le, fits}
use lib.Ieee.Fits.{add-fits}
use Rattle.binary32.specs.Arithmetic.{◌⊖◌, ◌⊗◌}
use Rattle.binary32.specs.Root.{root}
use Rattle.plane.specs.declared.Point.{Point}
use Rattle.plane.specs.Plane.{distance, project, off_segment}
use Rattle.binary32.proofs.roots.Order.{le-lt}
use Rattle.binary32.proofs.roots.Monotone.{clear, square-clear, sum-clear, root-less}
use Rattle.plane.specs.Square.{square, off_square}

pub square-fits : (a b : Point) → T (fits binary32 (square a b))
unfolding square
square-fits a b = let east = b.east ⊖ a.east in let north = b.north ⊖ a.north in add-fits binary32 (east ⊗ east) (north ⊗ north)

pub square-not-below : (a b : Point) → T (clear (square a b))
unfolding square
square-not-below a b =
    let east = b.east ⊖ a.east in
    let north = b.north ⊖ a.north in
    sum-clear binary32 (east ⊗ east) (north ⊗ north) (square-clear binary32 east) (square-clear binary32 north)

pub distance_is : (a b : Point) → distance a b ≡ root binary32 (square a b)
unfolding distance square
distance_is a b = refl

pub off-fits : (p a b : Point) → T (fits binary32 (off_square p a b))
unfolding off_square
off-fits p a b = square-fits p (project p a b).point

pub off-not-below : (p a b : Point) → T (clear (off_square p a b))
unfolding off_square
off-not-below p a b = square-not-below p (project p a b).point

pub off-is : (p a b : Point) → off_segment p a b ≡ root binary32 (off_square p a b)
unfolding off_segment off_square
off-is p a b = distance_is p (project p a b).point

pub far : (s bar most : Float) → T (fits binary32 s) → T (fits binary32 bar) → lt most (root binary32 bar) ≡ true → lt s bar ≡ false
    → le (root binary32 s) most ≡ false
far s bar most t u above h = go (le (root binary32 s) most) refl
  where
    go : (b : Bool) → le (root binary32 s) most ≡ b → b ≡ false
    go true e = absurd (true≢false (sym (root-less binary32 s bar t u (le-lt (root binary32 s) most (root binary32 bar) e above)) ∙ h))
    go false e = refl

pub far-off : (bar most : Float) → T (fits binary32 bar) → lt most (root binary32 bar) ≡ true → (p a b : Point)
    → lt (off_square p a b) bar ≡ false → le (off_segment p a b) most ≡ false
far-off bar most u above p a b h =
    subst (λ (z : Float). le z most ≡ false) (sym (off-is p a b)) (far (off_square p a b) bar most (off-fits p a b) u above h)
