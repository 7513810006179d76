-- Places found by their metres along a line.
use Rattle.std.specs.Prelude.{ℕ, zero, suc, ◌-◌, ◌+◌, true, false, cond, List, [], ◌∷◌, Float}
use Rattle.std.specs.Float.Ieee.{lt, le}
use Rattle.binary32.specs.Arithmetic.{◌⊖◌, ◌⊘◌}
use Rattle.binary32.specs.Limits.{plus_zero, clamp}
use Rattle.plane.specs.declared.Point.{Point}
use Rattle.plane.specs.Plane.{between}
use Rattle.crumbs.specs.declared.Crumb.{Crumb}
use Rattle.crumbs.specs.Line.{at}

-- the last place from i down that lies no further than `along`, or the first place
unfoldable pub place_before : List Crumb → Float → ℕ → ℕ
place_before line along zero = zero
place_before line along (suc k) = elim (lt along (at line (suc k)).along) [ true ↦ place_before line along k | false ↦ suc k ]

-- how far along the segment from a to b the place `along` lies, 0 to 1; 0 where the segment has no length
unfoldable pub share_along : Crumb → Crumb → Float → Float
share_along a b along =
    let span = b.along ⊖ a.along in
    cond (lt plus_zero span) (clamp ((along ⊖ a.along) ⊘ span)) plus_zero

-- the point there
unfoldable pub point_along : Crumb → Crumb → Float → Point
point_along a b along =
    let t = share_along a b along in
    record { east = between t a.east b.east; north = between t a.north b.north }

-- homing.rs, `at_along`: the line `along` metres from its first place, at or before segment `end`
unfoldable pub at_along : List Crumb → ℕ → Float → Point
at_along line end along = let i = place_before line along (end - 1) in point_along (at line i) (at line (i + 1)) along

-- Document 01, "Guide and event": "the number of leading crumbs with along ≤ limit"
unfoldable pub ends : List Crumb → Float → ℕ
ends [] limit = 0
ends (c ∷ line) limit = elim (le c.along limit) [ true ↦ suc (ends line limit) | false ↦ 0 ]
