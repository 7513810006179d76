-- The searches on the course while it is not followed. homing.rs, `course_near`, and the search of `joining`.
use Rattle.std.specs.Prelude.{ℕ, zero, suc, Bool, true, false, ◌&&◌, cond, List, Float, Option, Some, None}
use Rattle.std.specs.Float.Ieee.{lt, le}
use Rattle.binary32.specs.Arithmetic.{constant}
use Rattle.plane.specs.declared.Point.{Point}
use Rattle.plane.specs.Plane.{off_segment}
use Rattle.crumbs.specs.declared.Crumb.{Crumb}
use Rattle.crumbs.specs.Crumb.{point}
use Rattle.segments.specs.declared.costs.Nearest.{Nearest}
use Rattle.segments.specs.Turn.{same_way}
use Rattle.segments.specs.Cost.{plain}
use Rattle.crumbs.specs.Line.{at}
use Rattle.segments.specs.Segment.{nearest_on, considered, found}
use Rattle.search.specs.Search.{falling, count, every}

-- ---- the course while it is not followed
-- a found segment that lies within a distance
unfoldable pub closer : Float → Option Nearest → Option Nearest
closer most None = None
closer most (Some near) = cond (le near.off most) (Some near) None

-- what segment `end` costs wherever it lies
unfoldable pub cost_anywhere : List Crumb → Point → ℕ → Option Float
cost_anywhere line p end = plain (nearest_on line p end)

-- homing.rs, `course_near`: the nearest segment of the whole course, the highest end first, if it lies within `most` metres
unfoldable pub course_near : List Crumb → Point → Float → Option Nearest
course_near line p most =
    closer most (found (falling (considered line p (cost_anywhere line p)) (count (every line)) (every line).to None))

-- homing.rs, `joining`: `off_segment(p, a, b) < ON_M`
unfoldable pub join_m : Float
join_m = constant 25 1

-- homing.rs, `joining`: whether a rider at p is on the segment from a to b, less than 25 m from it, riding its way
unfoldable pub joins : Point → ℕ → Crumb → Crumb → Bool
joins p heading a b = lt (off_segment p (point a) (point b)) join_m && same_way heading a b

-- the highest end from `end` down whose segment the rider is on
unfoldable pub joined_from : List Crumb → Point → ℕ → ℕ → Option ℕ
joined_from line p heading zero = None
joined_from line p heading (suc k) =
    elim (joins p heading (at line k) (at line (suc k))) [ true ↦ Some (suc k) | false ↦ joined_from line p heading k ]

unfoldable pub joined : List Crumb → Point → ℕ → Option ℕ
joined line p heading = joined_from line p heading (every line).to
