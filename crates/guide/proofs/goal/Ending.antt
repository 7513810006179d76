-- The course's end. Assumes nothing.
use mathlib.Core.Path.{◌≡◌, refl}
use mathlib.Core.List.{List, [], ◌∷◌}
use Rattle.guide.specs.Goal.{goal_on}
use Rattle.plane.specs.declared.Point.{Point}
use Rattle.crumbs.specs.declared.Crumb.{Crumb}
use Rattle.crumbs.specs.Along.{start_of}
use Rattle.state.specs.declared.Line.TheVariants as line

-- ---- where the rider is to arrive
pub course-goal : (l : List Crumb) (start : Point) → goal_on line.Course l start ≡ start_of l start
unfolding goal_on start_of
course-goal [] start = refl
course-goal (a ∷ l) start = refl
