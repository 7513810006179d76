-- Document 01's starred lines about the plane. Assumes nothing.
use Rattle.std.proofs.Common.{◌≡◌, ℕ, ◌%◌, ◌≤◌, ℤ, pos, negsuc, nat_abs, refl, ap, ◌∙◌}
use lib.Ieee.{Float, binary32, of_bits, neg, add, sub, mul, div, lt, of_int, to_unsigned}
use Rattle.binary32.specs.Arithmetic.{◌⊗◌, ◌⊘◌, constant}
use Rattle.binary32.specs.Casts.{as_u32}
use Rattle.binary32.specs.Limits.{plus_zero, one}
use Rattle.binary32.proofs.magnitude.Size.{Within, frac}
use Rattle.binary32.proofs.magnitude.Laws.{within-refl, mul-within}
use Rattle.trig.specs.Fix.{pi, half_pi}
use Rattle.trig.proofs.Starred as compass
use Rattle.plane.specs.declared.Point.{Point}
use Rattle.plane.specs.Plane.{tau, turn, onward, bearing, metres}
use Rattle.plane.specs.Fix.{east_per_e7, wrapped, frame}
use Rattle.plane.proofs.Theorems.{east-factor}

abbrev origin : Point
origin = record { east = plus_zero; north = plus_zero }

abbrev to : Float → Float → Point
to east north = record { east = east; north = north }

-- a bearing from an angle
abbrev of_angle : Float → ℕ
of_angle a = as_u32 (onward (a ⊘ tau) ⊗ constant turn 1) % turn

-- * Bearings north, east, south, west: 0, 1024, 2048, 3072.
pub north : bearing origin (to plus_zero one) ≡ 0
unfolding bearing onward tau constant sub add mul div lt to_unsigned
north = ap of_angle compass.north ∙ refl

pub east : bearing origin (to one plus_zero) ≡ 1024
unfolding bearing onward tau constant half_pi sub add mul div lt to_unsigned
east = ap of_angle compass.east ∙ refl

pub south : bearing origin (to plus_zero (neg one)) ≡ 2048
unfolding bearing onward tau constant pi sub add mul div neg lt to_unsigned
south = ap of_angle compass.south ∙ refl

pub west : bearing origin (to (neg one) plus_zero) ≡ 3072
unfolding bearing onward tau constant half_pi sub add mul div neg lt to_unsigned
west = ap of_angle compass.west ∙ refl

-- * `metres` 0.5 is 1; 0.49999997 (3EFFFFFF hexadecimal) is 1.
pub half-metre : metres (constant 1 2) ≡ 1
unfolding metres constant add to_unsigned
half-metre = refl

pub under-half-metre : metres (of_bits binary32 0x3eff_ffff) ≡ 1
unfolding metres constant of_bits add to_unsigned
under-half-metre = refl

-- * Longitude −1,800,000,000 to 1,800,000,000: east 0. It is at most 0 in size, whatever the latitudes.
pub half-round : (lat0 lat : ℤ) → nat_abs lat0 ≤ 900000000
    → Within plus_zero
    (frame (record { lat = lat0; lon = negsuc 1799999999 }) (east_per_e7 lat0) (record { lat = lat; lon = pos 1800000000 })).east
unfolding frame wrapped mul of_int
half-round lat0 lat h =
    mul-within binary32 plus_zero (frac 5) plus_zero plus_zero (east_per_e7 lat0) tt (within-refl plus_zero tt) (east-factor lat0 h)

-- exactly half a turn stays
pub half-turn : (wrapped (pos 1800000000) ≡ pos 1800000000) × (wrapped (negsuc 1799999999) ≡ negsuc 1799999999)
unfolding wrapped
half-turn = (refl, refl)
