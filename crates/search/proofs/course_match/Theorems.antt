-- What holds of the match on the followed course for every line, position and heading. Assumes nothing.
use Prim.Native.Nat.{◌≤◌}
use mathlib.Core.Bool.{Bool, true, false}
use mathlib.Core.List.{List}
use Rattle.plane.specs.declared.Point.{Point}
use Rattle.crumbs.specs.declared.Crumb.{Crumb}
use Rattle.segments.specs.declared.costs.Nearest.{Nearest}
use Rattle.segments.specs.declared.costs.Ranking.{Ranking}
use Rattle.segments.specs.declared.costs.Ranking.TheVariants.{Plain, Ahead}
use Rattle.std.specs.Prelude.{Option, Some, None}
use Rattle.search.specs.declared.Range.{Range}
use Rattle.search.specs.declared.course_match.Progress.{Progress}
use Rattle.search.specs.CourseMatch.{in_reach, after_gap, slides_back, first_found, settled, on_near, matched, nearest_on_course}
use Rattle.search.proofs.Choosing.{OnlyMet}
use Rattle.search.proofs.Theorems.{within-met}

module _ (line : List Crumb) (p : Point) (ends : Range) (first : 1 ≤ ends.from) (was : Progress) where
  reach-met : (by : Ranking) → OnlyMet line p ends (in_reach line p ends was.along by)
  unfolding in_reach
  reach-met by = within-met line p ends first _ by

  pub near-met : OnlyMet line p ends (on_near line p ends was)
  unfolding on_near
  near-met = within-met line p ends first _ _

  either-met : (best other : Option Nearest) → OnlyMet line p ends best → OnlyMet line p ends other
      → OnlyMet line p ends (first_found best other)
  unfolding first_found
  either-met (Some near) other f o = f
  either-met None other f o = o

  settled-met : (near : Nearest) → OnlyMet line p ends (Some near) → OnlyMet line p ends (settled line p ends was near)
  unfolding settled
  settled-met near kept = by-test (slides_back line was near)
    where
      by-test : (b : Bool) → OnlyMet line p ends
          (elim b [ true ↦ first_found (in_reach line p ends was.along (Ahead was.heading)) (Some near) | false ↦ Some near ])
      by-test true = either-met _ (Some near) (reach-met (Ahead was.heading)) kept
      by-test false = kept

  matched-met : (best : Option Nearest) → OnlyMet line p ends best → OnlyMet line p ends (matched line p ends was best)
  unfolding matched
  matched-met None h = reach-met Plain
  matched-met (Some near) h = settled-met near h

  pub course-met : OnlyMet line p ends (nearest_on_course line p ends was)
  unfolding nearest_on_course
  course-met = by-test (after_gap was.fix p)
    where
      by-test : (b : Bool) → OnlyMet line p ends
          (elim b [ true ↦ in_reach line p ends was.along Plain | false ↦ matched line p ends was (on_near line p ends was) ])
      by-test true = reach-met Plain
      by-test false = matched-met (on_near line p ends was) near-met
