-- What holds of every bearing, every framed place and every east factor. Assumes nothing.
use Rattle.std.proofs.Common.{ℕ, ◌%◌, ◌^◌, ◌<◌, ◌≤◌, false, T, ℤ, pos, negsuc, ◌-ℤ◌, nat_abs, arith, lit≤}
use lib.Ieee.{Float, fin, binary32, of_int, le, mul, div}
use Rattle.binary32.specs.Arithmetic.{◌⊗◌, ◌⊘◌, constant}
use Rattle.binary32.proofs.magnitude.Size.{Within, frac}
use Rattle.binary32.specs.Limits.{size_of}
use Rattle.binary32.proofs.magnitude.Laws.{within-refl, within-trans, within-finite, widen, sized, mul-within, of_int-within}
use Rattle.binary32.proofs.magnitude.More.{div-within}
use Rattle.binary32.proofs.magnitude.Tests.{within→le}
use Rattle.trig.specs.Fix.{pi, cos}
use Rattle.trig.proofs.Magnitude.{part, cos-within}
use Rattle.plane.specs.declared.Fix.{Fix}
use Rattle.plane.specs.declared.Point.{Point}
use Rattle.plane.specs.Plane.{turn, bearing}
use Rattle.plane.specs.Fix.{m_per_e7, east_per_e7, wrapped, frame}
use Rattle.plane.proofs.Place.{Place}
use Rattle.plane.specs.Globe.{OnGlobe}
use Rattle.plane.proofs.Signed.{minus-within, wrapped-half}
use Rattle.plane.proofs.Places.{factor-coordinate}

pub bearing-below : (from to : Point) → bearing from to < turn
unfolding bearing
bearing-below from to = below _
  where
    below : (n : ℕ) → n % 4096 < 4096
    below n = omega arith

-- the east factor of a latitude on the globe: at most 2^-6, and so at most 0.02, in size
pub east-factor : (lat : ℤ) → nat_abs lat ≤ 900000000 → Within (frac 5) (east_per_e7 lat)
unfolding east_per_e7 m_per_e7 constant pi mul div of_int
east-factor lat h =
    let f = binary32 in
    let n = of_int f lat in
    let N : Within (fin false 3515625 (pos 8)) n = of_int-within f (fin false 3515625 (pos 8)) 900000000 lat tt h in
    let k = constant 1 (10 ^ 7) in
    let a = n ⊗ k in
    let A : Within (fin false 91 (pos 0)) a =
    mul-within f (fin false 3515625 (pos 8)) k (fin false 91 (pos 0)) n k tt N (within-refl k tt) in
    let b = a ⊗ pi in
    let B : Within (fin false 287 (pos 0)) b =
    mul-within f (fin false 91 (pos 0)) pi (fin false 287 (pos 0)) a pi tt A (within-refl pi tt) in
    let d = constant 180 1 in
    let r = b ⊘ d in
    let R : Within (part 13 2) r = div-within f (fin false 287 (pos 0)) d (part 13 2) b d tt B (within-refl d tt) in
    mul-within f m_per_e7 (part 43 4) (frac 5) m_per_e7 (cos r) tt (within-refl m_per_e7 tt) (cos-within r R)

pub east-factor-ok : (lat : ℤ) → nat_abs lat ≤ 900000000 → T (le (size_of (east_per_e7 lat)) (constant 2 100))
unfolding constant
east-factor-ok lat h =
    let k = east_per_e7 lat in
    let w = east-factor lat h in
    let s = sized k (within-finite (frac 5) k w) in
    (within→le 5368709 (negsuc 27) (size_of k)
    (widen (frac 5) (fin false 5368709 (negsuc 27)) (size_of k) tt (within-trans (frac 5) k (size_of k) w s.0))).0

-- the place of a fix on the globe, seen from an origin on the globe
pub frame-place : (origin x : Fix) (factor : Float) → OnGlobe origin.lat origin.lon → OnGlobe x.lat x.lon → Within (frac 5) factor
    → Place (frame origin factor x)
unfolding frame m_per_e7 constant
frame-place origin x factor O G w =
    record {
      east = factor-coordinate (wrapped (x.lon -ℤ origin.lon)) factor
          (wrapped-half (x.lon -ℤ origin.lon) (minus-within x.lon origin.lon 1800000000 G.longitude O.longitude)) w;
      north = factor-coordinate (x.lat -ℤ origin.lat) m_per_e7 (minus-within x.lat origin.lat 900000000 G.latitude O.latitude) (lit≤ tt);
    }

-- within ±2^25 for every fix, the factor being that of the origin
pub framed : (origin x : Fix) → OnGlobe origin.lat origin.lon → OnGlobe x.lat x.lon → Place (frame origin (east_per_e7 origin.lat) x)
framed origin x O G = frame-place origin x (east_per_e7 origin.lat) O G (east-factor origin.lat O.latitude)
