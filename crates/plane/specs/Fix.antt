-- From a fix to a place of the plane. Document 01, "Fix".
use Rattle.std.specs.Prelude.{◌^◌, cond, ℤ, pos, negsuc, ◌+ℤ◌, ◌-ℤ◌, int_lt, Float}
use Rattle.std.specs.Float.{binary32}
use Rattle.std.specs.Float.Ieee.{of_int}
use Rattle.binary32.specs.Arithmetic.{◌⊗◌, ◌⊘◌, constant}
use Rattle.trig.specs.Fix.{pi, cos}
use Rattle.plane.specs.declared.Fix.{Fix}
use Rattle.plane.specs.declared.Point.{Point}

-- metres per 1e-7 degree of latitude: 0.011119508
unfoldable pub m_per_e7 : Float
m_per_e7 = constant 11119508 (10 ^ 9)

-- metres east per 1e-7 degree of longitude at a latitude
unfoldable pub east_per_e7 : ℤ → Float
east_per_e7 lat = m_per_e7 ⊗ cos (of_int binary32 lat ⊗ constant 1 (10 ^ 7) ⊗ pi ⊘ constant 180 1)

-- "a longitude difference above 1,800,000,000 loses 3,600,000,000, one below the negative gains it; exactly ±1,800,000,000 stays"
unfoldable pub wrapped : ℤ → ℤ
wrapped d =
    cond (int_lt (pos 1800000000) d) (d -ℤ pos 3600000000)
    (cond (int_lt d (negsuc 1799999999)) (d +ℤ pos 3600000000) d)

-- the place of the fix x, seen from the origin: each difference rounded once, then times its factor
unfoldable pub frame : Fix → Float → Fix → Point
frame origin factor x =
    record { east = of_int binary32 (wrapped (x.lon -ℤ origin.lon)) ⊗ factor; north = of_int binary32 (x.lat -ℤ origin.lat) ⊗ m_per_e7 }
