-- The code's literals, by their bit patterns, are the document's decimal numbers to the nearest. Assumes nothing.
use mathlib.Core.Path.{◌≡◌, refl}
use lib.Ieee.{binary32, of_bits, neg}
use Rattle.binary32.specs.Arithmetic.{constant}
use Rattle.binary32.specs.Limits.{plus_zero, one}
use Rattle.trig.specs.Fix.{pi, half_pi, quarter_pi, half, cos8, cos6, cos4, sin7, sin5, sin3, atan9, atan7, atan5, atan3, tan_eighth_pi}

pub zero_is : of_bits binary32 0 ≡ plus_zero
unfolding of_bits
zero_is = refl

pub half_is : of_bits binary32 0x3f00_0000 ≡ half
unfolding of_bits half constant
half_is = refl

pub one-is : of_bits binary32 0x3f80_0000 ≡ one
unfolding of_bits
one-is = refl

pub pi-is : of_bits binary32 0x4049_0fdb ≡ pi
unfolding of_bits pi constant
pi-is = refl

pub half_pi-is : of_bits binary32 0x3fc9_0fdb ≡ half_pi
unfolding of_bits half_pi constant
half_pi-is = refl

pub quarter_pi-is : of_bits binary32 0x3f49_0fdb ≡ quarter_pi
unfolding of_bits quarter_pi constant
quarter_pi-is = refl

pub cos8-is : of_bits binary32 0x37cc_f5ce ≡ cos8
unfolding of_bits cos8 constant
cos8-is = refl

pub cos6-is : of_bits binary32 0x3ab6_061a ≡ cos6
unfolding of_bits cos6 constant
cos6-is = refl

pub cos4-is : of_bits binary32 0x3d2a_aaa5 ≡ cos4
unfolding of_bits cos4 constant
cos4-is = refl

pub sin7-is : neg (of_bits binary32 0x394c_a1f9) ≡ sin7
unfolding of_bits sin7 constant neg
sin7-is = refl

pub sin5-is : of_bits binary32 0x3c08_839e ≡ sin5
unfolding of_bits sin5 constant
sin5-is = refl

pub sin3-is : of_bits binary32 0x3e2a_aaa3 ≡ sin3
unfolding of_bits sin3 constant
sin3-is = refl

pub atan9-is : of_bits binary32 0x3da4_f0d1 ≡ atan9
unfolding of_bits atan9 constant
atan9-is = refl

pub atan7-is : of_bits binary32 0x3e0e_1b85 ≡ atan7
unfolding of_bits atan7 constant
atan7-is = refl

pub atan5-is : of_bits binary32 0x3e4c_925f ≡ atan5
unfolding of_bits atan5 constant
atan5-is = refl

pub atan3-is : of_bits binary32 0x3eaa_aa2a ≡ atan3
unfolding of_bits atan3 constant
atan3-is = refl

pub tan_eighth_pi-is : of_bits binary32 0x3ed4_13cd ≡ tan_eighth_pi
unfolding of_bits tan_eighth_pi constant
tan_eighth_pi-is = refl
