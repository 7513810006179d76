-- The nearest segment of a line to a position. homing.rs, `nearest_within`.
use Rattle.std.specs.Prelude.{ℕ, zero, suc, ◌+◌, ◌-◌, ◌^◌, true, false, List, length, pos, Float, Option, None}
use Rattle.std.specs.Float.{fin}
use Rattle.plane.specs.declared.Point.{Point}
use Rattle.crumbs.specs.declared.Crumb.{Crumb}
use Rattle.segments.specs.declared.costs.Ranking.{Ranking}
use Rattle.segments.specs.declared.costs.Ranking.TheVariants.{Plain}
use Rattle.segments.specs.declared.costs.Nearest.{Nearest}
use Rattle.search.specs.declared.Range.{Range}
use Rattle.segments.specs.declared.Stretch.{Stretch}
use Rattle.segments.specs.Segment.{considered, cost_within, found}

-- `left` ends considered one after the other, from `end` up
unfoldable pub rising : (ℕ → Option (Nearest × Float) → Option (Nearest × Float)) → ℕ → ℕ → Option (Nearest × Float)
    → Option (Nearest × Float)
rising consider zero end best = best
rising consider (suc left) end best = rising consider left (end + 1) (consider end best)

-- and from `end` down
unfoldable pub falling : (ℕ → Option (Nearest × Float) → Option (Nearest × Float)) → ℕ → ℕ → Option (Nearest × Float)
    → Option (Nearest × Float)
falling consider zero end best = best
falling consider (suc left) end best = falling consider left (end - 1) (consider end best)

-- how many ends there are
abbrev pub count : Range → ℕ
count ends = ends.to + 1 - ends.from

-- every segment of a line
abbrev pub every : List Crumb → Range
every line = record { from = 1; to = length line - 1 }

-- `f32::MAX` and `f32::MIN`: the largest finite value, and its negative
unfoldable pub largest : Float
largest = fin false (2 ^ 24 - 1) (pos 104)

unfoldable pub lowest : Float
lowest = fin true (2 ^ 24 - 1) (pos 104)

-- all of f32's range
abbrev pub anywhere : Stretch
anywhere = record { floor = lowest; ceiling = largest }

-- "Equal costs: breadcrumb keeps the lowest end": the lowest is considered first
unfoldable pub nearest_on_breadcrumb : List Crumb → Point → Range → Option Nearest
nearest_on_breadcrumb line p ends = found (rising (considered line p (cost_within line p anywhere Plain)) (count ends) ends.from None)

-- "course the highest"
unfoldable pub nearest_within : List Crumb → Point → Range → Stretch → Ranking → Option Nearest
nearest_within line p ends within by = found (falling (considered line p (cost_within line p within by)) (count ends) ends.to None)
