-- The angles of the four points of the compass, for document 01's starred line "Bearings north, east, south, west: 0, 1024, 2048, 3072";
-- and the cosine of 0. Assumes nothing.
use mathlib.Core.Path.{◌≡◌, refl, sym, ap, ◌∙◌}
use mathlib.Core.Bool.{true, false}
use lib.IntN.{negsuc}
use lib.Ieee.{fin, neg, add, sub, mul, div, lt, le, eq}
use Rattle.binary32.specs.Arithmetic.{constant}
use Rattle.binary32.specs.Limits.{plus_zero, one}
use Rattle.trig.specs.Fix.{pi, half_pi, quarter_pi, half, cos8, cos6, cos4, near_cos, cos}
use Rattle.trig.specs.Fix.{atan9, atan7, atan5, atan3, tan_eighth_pi, smaller, larger, quotient, base, reduced, series, arc, eastward}
use Rattle.trig.specs.Fix.{southward, westward, direction, angle}

-- π and π/2 to the nearest, worked out
pi-value : pi ≡ fin false 13176795 (negsuc 21)
unfolding pi constant
pi-value = refl

half_pi-value : half_pi ≡ fin false 13176795 (negsuc 22)
unfolding half_pi constant
half_pi-value = refl

angles :
    (angle plus_zero one ≡ plus_zero)
    × (angle one plus_zero ≡ fin false 13176795 (negsuc 22))
    × (angle plus_zero (neg one) ≡ fin false 13176795 (negsuc 21))
    × (angle (neg one) plus_zero ≡ fin true 13176795 (negsuc 22))
unfolding angle direction westward southward eastward arc series reduced base quotient larger smaller tan_eighth_pi atan3 atan5 atan7 atan9
    pi
    constant
    half_pi eq lt div mul sub add neg
angles = (refl, refl, refl, refl)

pub north : angle plus_zero one ≡ plus_zero
north = angles.0

pub east : angle one plus_zero ≡ half_pi
east = angles.1 ∙ sym half_pi-value

pub south : angle plus_zero (neg one) ≡ pi
south = angles.2 ∙ sym pi-value

pub west : angle (neg one) plus_zero ≡ neg half_pi
unfolding neg
west = angles.3 ∙ sym (ap neg half_pi-value)

pub cos-zero : cos plus_zero ≡ one
unfolding cos near_cos quarter_pi half cos4 cos6 cos8 le mul sub add constant
cos-zero = refl
