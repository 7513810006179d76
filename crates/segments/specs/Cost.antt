-- What it costs to match a position to a segment. homing.rs, `nearest`: the three closures `plain`, `on` and `ahead`.
use Rattle.std.specs.Prelude.{true, false, Float, Option, Some, None, ℕ}
use Rattle.std.specs.Float.Ieee.{le}
use Rattle.binary32.specs.Arithmetic.{◌⊕◌, ◌⊖◌}
use Rattle.binary32.specs.Limits.{plus_zero, max_zero}
use Rattle.crumbs.specs.declared.Crumb.{Crumb}
use Rattle.segments.specs.Turn.{against}
use Rattle.segments.specs.declared.costs.Nearest.{Nearest}
use Rattle.segments.specs.declared.costs.Ranking.{Ranking}
use Rattle.segments.specs.declared.costs.Ranking.TheVariants.{Plain, On, Ahead}
use Rattle.segments.specs.CostConstants.{search_m, slip_m, against_m}

-- how far off it is
unfoldable pub plain : Nearest → Option Float
plain near = Some near.off

-- how far behind the furthest place reached it lies, less what costs nothing
unfoldable pub back : Float → Nearest → Float
back reached near = max_zero (near.along ⊖ reached ⊖ slip_m)

-- what a segment against the rider's way adds
unfoldable pub contrary : Option ℕ → Crumb → Crumb → Float
contrary heading a b = elim (against heading a b) [ true ↦ against_m | false ↦ plus_zero ]

-- within 25 m: how far off, how far behind, and whether against the rider's way
unfoldable pub on : Float → Option ℕ → Nearest → Crumb → Crumb → Option Float
on reached heading near a b =
    elim (le near.off search_m) [ true ↦ Some (near.off ⊕ back reached near ⊕ contrary heading a b) | false ↦ None ]

-- within 25 m and not against the rider's way: how far off
unfoldable pub ahead : Option ℕ → Nearest → Crumb → Crumb → Option Float
ahead heading near a b =
    elim (le near.off search_m) [
      | true ↦ elim (against heading a b) [ true ↦ None | false ↦ plain near ]
      | false ↦ None
    ]

-- the cost of the segment from a to b by each of the three
unfoldable pub cost_of : Ranking → Nearest → Crumb → Crumb → Option Float
cost_of Plain near a b = plain near
cost_of (On reached heading) near a b = on reached heading near a b
cost_of (Ahead heading) near a b = ahead heading near a b
