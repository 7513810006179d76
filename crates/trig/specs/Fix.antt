-- The cosine and the angle of a direction. Document 01, "Fix": "Stand-ins, used on both sides of the comparison; each f32 operation rounds
-- once, constants to nearest". Every operation here rounds once: `⊕`, `⊖`, `⊗` and `⊘` are binary32's. A quoted sentence is the document's.
-- Definitions only.
use Rattle.std.specs.Prelude.{◌*◌, ◌^◌, true, false, ◌&&◌, Float}
use Rattle.std.specs.Float.Ieee.{neg, lt, le, eq}
use Rattle.binary32.specs.Arithmetic.{◌⊕◌, ◌⊖◌, ◌⊗◌, ◌⊘◌, constant}
use Rattle.binary32.specs.Limits.{size_of, plus_zero, one}

-- ---- constants
-- π to 36 digits, its half and its quarter
unfoldable pub pi : Float
pi = constant 314159265358979323846264338327950288 (10 ^ 35)

unfoldable pub half_pi : Float
half_pi = constant 314159265358979323846264338327950288 (2 * 10 ^ 35)

unfoldable pub quarter_pi : Float
quarter_pi = constant 314159265358979323846264338327950288 (4 * 10 ^ 35)

-- 0.5
unfoldable pub half : Float
half = constant 5 10

-- of the cosine near 0, by the power of r: 2.443315711809948e-5, 1.388731625493765e-3, 4.166664568298827e-2
unfoldable pub cos8 : Float
cos8 = constant 2443315711809948 (10 ^ 20)

unfoldable pub cos6 : Float
cos6 = constant 1388731625493765 (10 ^ 18)

unfoldable pub cos4 : Float
cos4 = constant 4166664568298827 (10 ^ 17)

-- of the cosine far from 0, by the power of b: −1.9515295891e-4, 8.3321608736e-3, 1.6666654611e-1
unfoldable pub sin7 : Float
sin7 = neg (constant 19515295891 (10 ^ 14))

unfoldable pub sin5 : Float
sin5 = constant 83321608736 (10 ^ 13)

unfoldable pub sin3 : Float
sin3 = constant 16666654611 (10 ^ 11)

-- of the angle, by the power of w: 8.05374449538e-2, 1.38776856032e-1, 1.99777106478e-1, 3.33329491539e-1
unfoldable pub atan9 : Float
atan9 = constant 805374449538 (10 ^ 13)

unfoldable pub atan7 : Float
atan7 = constant 138776856032 (10 ^ 12)

unfoldable pub atan5 : Float
atan5 = constant 199777106478 (10 ^ 12)

unfoldable pub atan3 : Float
atan3 = constant 333329491539 (10 ^ 12)

-- 0.41421356, the tangent of π/8
unfoldable pub tan_eighth_pi : Float
tan_eighth_pi = constant 41421356 (10 ^ 8)

-- ---- the cosine
-- "z = r·r: u = ((2.443315711809948e-5·z − 1.388731625493765e-3)·z + 4.166664568298827e-2)·z·z, then u − 0.5·z, then + 1"
unfoldable pub near_cos : Float → Float
near_cos r =
    let z = r ⊗ r in
    let u = ((cos8 ⊗ z ⊖ cos6) ⊗ z ⊕ cos4) ⊗ z ⊗ z in
    u ⊖ half ⊗ z ⊕ one

-- "z = b·b: ((−1.9515295891e-4·z + 8.3321608736e-3)·z − 1.6666654611e-1)·z·b + b"
unfoldable pub far_cos : Float → Float
far_cos b =
    let z = b ⊗ b in
    ((sin7 ⊗ z ⊕ sin5) ⊗ z ⊖ sin3) ⊗ z ⊗ b ⊕ b

-- "cos r, a = |r|. If a ≤ π/4, .. Else b = π/2 − a"
unfoldable pub cos : Float → Float
cos r = elim (le (size_of r) quarter_pi) [ true ↦ near_cos r | false ↦ far_cos (half_pi ⊖ size_of r) ]

-- ---- the angle
-- of two sizes
unfoldable pub smaller : Float → Float → Float
smaller a b = elim (lt b a) [ true ↦ b | false ↦ a ]

unfoldable pub larger : Float → Float → Float
larger a b = elim (lt b a) [ true ↦ a | false ↦ b ]

-- "q = smaller size / larger size"
unfoldable pub quotient : Float → Float → Float
quotient a b = smaller a b ⊘ larger a b

-- "If q > 0.41421356, base = π/4 and w = (q − 1)/(q + 1), else base = 0, w = q"
unfoldable pub base : Float → Float
base q = elim (lt tan_eighth_pi q) [ true ↦ quarter_pi | false ↦ plus_zero ]

unfoldable pub reduced : Float → Float
reduced q = elim (lt tan_eighth_pi q) [ true ↦ (q ⊖ one) ⊘ (q ⊕ one) | false ↦ q ]

-- "z = w·w; .. (((8.05374449538e-2·z − 1.38776856032e-1)·z + 1.99777106478e-1)·z − 3.33329491539e-1)·z·w + w"
unfoldable pub series : Float → Float
series w =
    let z = w ⊗ w in
    (((atan9 ⊗ z ⊖ atan7) ⊗ z ⊕ atan5) ⊗ z ⊖ atan3) ⊗ z ⊗ w ⊕ w

-- "g = base + (..)"
unfoldable pub arc : Float → Float
arc q = base q ⊕ series (reduced q)

-- "If |east| > |north|, g = π/2 − g"
unfoldable pub eastward : Float → Float → Float → Float
eastward a b g = elim (lt b a) [ true ↦ half_pi ⊖ g | false ↦ g ]

-- "if north < 0, g = π − g"
unfoldable pub southward : Float → Float → Float
southward north g = elim (lt north plus_zero) [ true ↦ pi ⊖ g | false ↦ g ]

-- "if east < 0, g is negated"
unfoldable pub westward : Float → Float → Float
westward east g = elim (lt east plus_zero) [ true ↦ neg g | false ↦ g ]

-- the angle where not both are zero
unfoldable pub direction : Float → Float → Float
direction east north =
    let a = size_of east in
    let b = size_of north in
    westward east (southward north (eastward a b (arc (quotient a b))))

-- "Angle of (east, north): 0 if both are zero, zero having no sign": `eq` takes -0 for 0
unfoldable pub angle : Float → Float → Float
angle east north = elim (eq east plus_zero && eq north plus_zero) [ true ↦ plus_zero | false ↦ direction east north ]
