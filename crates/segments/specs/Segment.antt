-- Where a position meets a segment, and which of the segments tried comes first. homing.rs, `nearest_on` and `nearest_within`.
use Rattle.std.specs.Prelude.{ℕ, ◌-◌, true, false, ◌||◌, cond, List, Option, Some, None, Float}
use Rattle.std.specs.Float.Ieee.{lt}
use Rattle.plane.specs.declared.Point.{Point}
use Rattle.plane.specs.Plane.{distance, project, between}
use Rattle.crumbs.specs.declared.Crumb.{Crumb}
use Rattle.crumbs.specs.Crumb.{point}
use Rattle.segments.specs.declared.costs.Nearest.{Nearest}
use Rattle.segments.specs.declared.costs.Ranking.{Ranking}
use Rattle.segments.specs.Cost.{cost_of}
use Rattle.segments.specs.declared.Stretch.{Stretch}
use Rattle.crumbs.specs.Line.{at}

-- where p meets the segment from a to b, whose far end is `end`
unfoldable pub meets : Crumb → Crumb → Point → ℕ → Nearest
meets a b p end =
    let q = project p (point a) (point b) in
    record { end = end; off = distance p q.point; point = q.point; along = between q.t a.along b.along }

-- where p meets segment `end` of a line
unfoldable pub nearest_on : List Crumb → Point → ℕ → Nearest
nearest_on line p end = meets (at line (end - 1)) (at line end) p end

-- The segment of least cost so far, and then one more: it is taken where its cost is less, or where nothing was. One without a cost is out.
unfoldable pub cheaper : Option (Nearest × Float) → Nearest → Option Float → Option (Nearest × Float)
cheaper best near None = best
cheaper None near (Some cost) = Some (near, cost)
cheaper (Some (old, least)) near (Some cost) = cond (lt cost least) (Some (near, cost)) (Some (old, least))

-- what segment `end` costs among those of a stretch: it is out where it ends before the floor or begins past the ceiling
unfoldable pub cost_within : List Crumb → Point → Stretch → Ranking → ℕ → Option Float
cost_within line p within by end =
    let a = at line (end - 1) in
    let b = at line end in
    elim (lt b.along within.floor || lt within.ceiling a.along) [
      | true ↦ None
      | false ↦ cost_of by (nearest_on line p end) a b
    ]

-- segment `end` considered at its cost
unfoldable pub considered : List Crumb → Point → (ℕ → Option Float) → ℕ → Option (Nearest × Float) → Option (Nearest × Float)
considered line p cost end best = cheaper best (nearest_on line p end) (cost end)

-- the segment found, without its cost
unfoldable pub found : Option (Nearest × Float) → Option Nearest
found None = None
found (Some (near, cost)) = Some near
