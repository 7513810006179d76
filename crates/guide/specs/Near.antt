-- For the functions inside: whether some segment of the course lies within 500 m. What the guide shows is `near_course`.
use Rattle.std.specs.Prelude.{ℕ, zero, suc, Bool, true, false, List}
use Rattle.std.specs.Float.Ieee.{le}
use Rattle.plane.specs.declared.Point.{Point}
use Rattle.crumbs.specs.declared.Crumb.{Crumb}
use Rattle.matching.specs.Distances.{drop_m}
use Rattle.segments.specs.Segment.{nearest_on}

unfoldable pub lies_near : List Crumb → Point → ℕ → Bool
lies_near line p end = le (nearest_on line p end).off drop_m

-- some end from `end` down
unfoldable pub some_near : List Crumb → Point → ℕ → Bool
some_near line p zero = false
some_near line p (suc k) = elim (lies_near line p (suc k)) [ true ↦ true | false ↦ some_near line p k ]
