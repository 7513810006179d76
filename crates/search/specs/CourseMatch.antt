-- The search on the course while it is followed. homing.rs, `nearest`.
use Rattle.std.specs.Prelude.{◌-◌, Bool, true, false, ◌&&◌, List, Float, Option, Some, None}
use Rattle.std.specs.Float.Ieee.{lt}
use Rattle.binary32.specs.Arithmetic.{◌⊕◌, ◌⊖◌, constant}
use Rattle.plane.specs.declared.Point.{Point}
use Rattle.plane.specs.Plane.{distance}
use Rattle.crumbs.specs.declared.Crumb.{Crumb}
use Rattle.segments.specs.declared.costs.Nearest.{Nearest}
use Rattle.segments.specs.declared.costs.Ranking.{Ranking}
use Rattle.segments.specs.declared.costs.Ranking.TheVariants.{Plain, On, Ahead}
use Rattle.search.specs.declared.Range.{Range}
use Rattle.segments.specs.declared.Stretch.{Stretch}
use Rattle.search.specs.declared.course_match.Progress.{Progress}
use Rattle.segments.specs.Turn.{against}
use Rattle.segments.specs.CostConstants.{slip_m}
use Rattle.crumbs.specs.Line.{at}
use Rattle.search.specs.Search.{nearest_within}

-- ---- distances of homing.rs, `nearest`, in metres
-- how far on towards the course's end the match moves in one fix, and how far back
unfoldable pub jump_m : Float
jump_m = constant 500 1

unfoldable pub back_m : Float
back_m = constant 25 1

-- how far on the stretch reaches that is matched first
unfoldable pub near_m : Float
near_m = constant 100 1

-- a fix further than this from the one last matched follows a gap
unfoldable pub hop_m : Float
hop_m = constant 40 1

-- ---- the course while it is followed
-- from `on` metres ahead of a place on the course to 25 m behind it; along falls towards the course's end
unfoldable pub around : Float → Float → Stretch
around along on = record { floor = along ⊖ on; ceiling = along ⊕ back_m }

-- the segments in reach of a place on the course
unfoldable pub in_reach : List Crumb → Point → Range → Float → Ranking → Option Nearest
in_reach line p ends along by = nearest_within line p ends (around along jump_m) by

-- whether p follows a gap in the fixes: nothing was matched since the fix was lost, or p lies more than 40 m from the fix last matched
unfoldable pub after_gap : Option Point → Point → Bool
after_gap None p = true
after_gap (Some fix) p = lt hop_m (distance fix p)

-- whether a match slides back, more than 10 m behind the furthest place reached and against the rider's way
unfoldable pub slides_back : List Crumb → Progress → Nearest → Bool
slides_back line was near =
    lt (was.reached ⊕ slip_m) near.along && against was.heading (at line (near.end - 1)) (at line near.end)

-- the first where it is found, else the other
unfoldable pub first_found : Option Nearest → Option Nearest → Option Nearest
first_found (Some near) other = Some near
first_found None other = other

-- a match on the near stretch; where it slides back, a segment in reach that runs the rider's way comes first
unfoldable pub settled : List Crumb → Point → Range → Progress → Nearest → Option Nearest
settled line p ends was near =
    elim (slides_back line was near) [
      | true ↦ first_found (in_reach line p ends was.along (Ahead was.heading)) (Some near)
      | false ↦ Some near
    ]

-- the match on the near stretch
unfoldable pub on_near : List Crumb → Point → Range → Progress → Option Nearest
on_near line p ends was = nearest_within line p ends (around was.along near_m) (On was.reached was.heading)

-- what is matched, given the match on the near stretch
unfoldable pub matched : List Crumb → Point → Range → Progress → Option Nearest → Option Nearest
matched line p ends was None = in_reach line p ends was.along Plain
matched line p ends was (Some near) = settled line p ends was near

-- homing.rs, `nearest`: after a gap the nearest segment in reach; otherwise the near stretch comes first
unfoldable pub nearest_on_course : List Crumb → Point → Range → Progress → Option Nearest
nearest_on_course line p ends was =
    elim (after_gap was.fix p) [
      | true ↦ in_reach line p ends was.along Plain
      | false ↦ matched line p ends was (on_near line p ends was)
    ]
