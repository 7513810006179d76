-- `root` at some bit patterns: what it is to be was read off the machine's own `sqrtss`. Assumes nothing.
use Rattle.std.proofs.Common.{◌≡◌, ℕ, refl}
use lib.Ieee.{nan, binary32, binary64, of_bits, to_bits}
use Rattle.binary32.specs.Root.{root}

abbrev at : ℕ → ℕ
unfolding of_bits to_bits root
at b = to_bits binary32 (root binary32 (of_bits binary32 b))

-- 4.0, whose root is 2.0
four : at 0x4080_0000 ≡ 0x4000_0000
unfolding of_bits to_bits root
four = refl

-- 2.0
two : at 0x4000_0000 ≡ 0x3fb5_04f3
unfolding of_bits to_bits root
two = refl

-- the smallest value above zero, 2 ^ -149
least : at 1 ≡ 0x1a35_04f3
unfolding of_bits to_bits root
least = refl

-- the largest subnormal value
most-subnormal : at 0x007f_ffff ≡ 0x1fff_ffff
unfolding of_bits to_bits root
most-subnormal = refl

-- the smallest normal value, 2 ^ -126
least-normal : at 0x0080_0000 ≡ 0x2000_0000
unfolding of_bits to_bits root
least-normal = refl

-- the largest finite value
most : at 0x7f7f_ffff ≡ 0x5f7f_ffff
unfolding of_bits to_bits root
most = refl

-- the value just below 1
below_one : at 0x3f7f_ffff ≡ 0x3f7f_ffff
unfolding of_bits to_bits root
below_one = refl

-- the value just above 1
above-one : at 0x3f80_0001 ≡ 0x3f80_0000
unfolding of_bits to_bits root
above-one = refl

-- pi
pi : at 0x4049_0fdb ≡ 0x3fe2_dfc5
unfolding of_bits to_bits root
pi = refl

-- the infinity
infinity : at 0x7f80_0000 ≡ 0x7f80_0000
unfolding of_bits to_bits root
infinity = refl

-- +0
plus-zero : at 0 ≡ 0
unfolding of_bits to_bits root
plus-zero = refl

-- -0
minus-zero : at 0x8000_0000 ≡ 0x8000_0000
unfolding of_bits to_bits root
minus-zero = refl

minus_one : root binary32 (of_bits binary32 0xbf80_0000) ≡ nan
unfolding of_bits root
minus_one = refl

minus-infinity : root binary32 (of_bits binary32 0xff80_0000) ≡ nan
unfolding of_bits root
minus-infinity = refl

no_number : root binary32 nan ≡ nan
unfolding root
no_number = refl

-- 2.0 as an `f64`
two-double : to_bits binary64 (root binary64 (of_bits binary64 0x4000_0000_0000_0000)) ≡ 0x3ff6_a09e_667f_3bcd
unfolding of_bits to_bits root
two-double = refl
