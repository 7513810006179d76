-- What the rules do to places: distances are at most 2^27 m, and a projected point is a place again. Assumes nothing.
use Rattle.std.proofs.Common.{◌^◌, ◌≤◌, Bool, true, false, cond, T, ℤ, pos, nat_abs, lit<, lit≤}
use lib.Ieee.{Float, fin, binary32, add, mul, lt, of_int}
use lib.Ieee.Fits.{add-fits, mul-fits}
use Rattle.binary32.specs.Arithmetic.{◌⊕◌, ◌⊖◌, ◌⊗◌, ◌⊘◌}
use Rattle.binary32.specs.Root.{root}
use Rattle.binary32.specs.Limits.{plus_zero, clamp}
use Rattle.binary32.proofs.magnitude.Size.{Within, NonNeg, Share, pow, frac}
use Rattle.binary32.proofs.magnitude.Laws.{within-finite, widen, add-within, sub_within, mul-within, of_int-within}
use Rattle.binary32.proofs.magnitude.Between.{place-between}
use Rattle.binary32.proofs.magnitude.Shares.{clamp-div, zero-share}
use Rattle.binary32.proofs.magnitude.Signs.{add-nonneg, square-nonneg}
use Rattle.binary32.proofs.magnitude.Roots.{root-within, root-nonneg}
use Rattle.plane.specs.declared.Point.{Point}
use Rattle.plane.specs.Plane.{distance, share, between, at_share, project}
use Rattle.plane.proofs.Place.{Coordinate, Place}

-- the difference of two coordinates, and a sum of two products of such
gap : (a b : Float) → Coordinate a → Coordinate b → Within (pow 26) (b ⊖ a)
unfolding add
gap a b A B = sub_within binary32 (pow 25) (pow 25) (pow 26) b a tt B.1 A.1

products : (u v x y : Float) → Within (pow 26) u → Within (pow 26) v → Within (pow 26) x → Within (pow 26) y
    → Within (pow 53) (u ⊗ v ⊕ x ⊗ y)
unfolding add mul
products u v x y U W X Y =
    add-within binary32 (pow 52) (pow 52) (pow 53) (u ⊗ v) (x ⊗ y) tt
    (mul-within binary32 (pow 26) (pow 26) (pow 52) u v tt U W) (mul-within binary32 (pow 26) (pow 26) (pow 52) x y tt X Y)

square-nonneg-at : (u : Float) → Within (pow 26) u → NonNeg (u ⊗ u)
unfolding mul
square-nonneg-at u U = square-nonneg binary32 u (within-finite (pow 52) (u ⊗ u) (mul-within binary32 (pow 26) (pow 26) (pow 52) u u tt U U))

pub distance-within : (a b : Point) → Place a → Place b → Within (pow 27) (distance a b) × NonNeg (distance a b)
unfolding distance
distance-within a b A B =
    let e = b.east ⊖ a.east in
    let n = b.north ⊖ a.north in
    let E = gap a.east b.east A.east B.east in
    let N = gap a.north b.north A.north B.north in
    let s = e ⊗ e ⊕ n ⊗ n in
    let S : Within (pow 53) s = products e e n n E E N N in
    let P : NonNeg s = add-nonneg binary32 (e ⊗ e) (n ⊗ n) (square-nonneg-at e E) (square-nonneg-at n N) (within-finite (pow 53) s S) in
    let R : Within (pow 27) (root binary32 s) =
    root-within binary32 1 27 s (lit< tt, lit≤ tt, lit< tt) P (widen (pow 53) (fin false (2 ^ 54) (pos 0)) s tt S) in
    (R, root-nonneg binary32 s P (within-finite (pow 27) (root binary32 s) R))

cond-share : (b : Bool) (x y : Float) → (T b → Share x) → Share y → Share (cond b x y)
cond-share true x y h k = h tt
cond-share false x y h k = k

pub share-share : (p a b : Point) → Place p → Place a → Place b → Share (share p a b)
unfolding share
share-share p a b P A B =
    let dx = b.east ⊖ a.east in
    let dy = b.north ⊖ a.north in
    let ex = p.east ⊖ a.east in
    let ey = p.north ⊖ a.north in
    let X = gap a.east b.east A.east B.east in
    let Y = gap a.north b.north A.north B.north in
    let l = dx ⊗ dx ⊕ dy ⊗ dy in
    let n = ex ⊗ dx ⊕ ey ⊗ dy in
    let L = products dx dx dy dy X X Y Y in
    let N = products ex dx ey dy (gap a.east p.east A.east P.east) X (gap a.north p.north A.north P.north) Y in
    cond-share (lt plus_zero l) (clamp (n ⊘ l)) plus_zero
    (λ h. clamp-div binary32 n l (within-finite (pow 53) n N) (within-finite (pow 53) l L) h) zero-share

between-coordinate : (t a b : Float) → Share t → Coordinate a → Coordinate b → Coordinate (between t a b)
unfolding between
between-coordinate t a b S A B = (add-fits binary32 a (t ⊗ (b ⊖ a)), place-between a b t A.0 B.0 A.1 B.1 S)

-- a projected point of a segment within ±2^25 lies within ±2^25
pub project-place : (p a b : Point) → Place p → Place a → Place b → Place (project p a b).point
unfolding project at_share
project-place p a b P A B =
    let S = share-share p a b P A B in
    record {
      east = between-coordinate (share p a b) a.east b.east S A.east B.east;
      north = between-coordinate (share p a b) a.north b.north S A.north B.north;
    }

-- a difference of at most half a turn, in 1e-7 degree, times a factor of at most 2^-6
pub factor-coordinate : (d : ℤ) (k : Float) → nat_abs d ≤ 1800000000 → Within (frac 5) k → Coordinate (of_int binary32 d ⊗ k)
unfolding mul of_int
factor-coordinate d k h w = (
  mul-fits binary32 (of_int binary32 d) k,
  mul-within binary32 (fin false 1800000000 (pos 0)) (frac 5) (pow 25) (of_int binary32 d) k tt
      (of_int-within binary32 (fin false 1800000000 (pos 0)) 1800000000 d tt h) w,
)
