-- The line of crumbs, from its first: document 01, "Crumb", and homing.rs's `recorded_m`, `start` and, behind a thinning, `thin`.
use Rattle.std.specs.Prelude.{List, [], ◌∷◌, Float, Option, Some, None}
use Rattle.binary32.specs.Arithmetic.{◌⊕◌}
use Rattle.binary32.specs.Limits.{plus_zero}
use Rattle.plane.specs.declared.Point.{Point}
use Rattle.plane.specs.Plane.{distance}
use Rattle.crumbs.specs.declared.Crumb.{Crumb}
use Rattle.crumbs.specs.Crumb.{point}
use Rattle.crumbs.specs.Choice.{last}

abbrev pub crumb_of : Point → Float → Crumb
crumb_of p along = record { east = p.east; north = p.north; along = along }

-- how far along the line p lies, which comes next after the crumb a
unfoldable pub along_to : Crumb → Point → Float
along_to a p = a.along ⊕ distance (point a) p

unfoldable pub along_behind : Option Crumb → Point → Float
along_behind None p = plus_zero
along_behind (Some a) p = along_to a p

-- `recorded_m`: how long the line is from its first crumb to p behind its last; 0 where none is held
unfoldable pub recorded_m : List Crumb → Point → Float
recorded_m l p = along_behind (last l) p

-- `start`: where the ride began, its first crumb; p where none is held
unfoldable pub start_of : List Crumb → Point → Point
start_of [] p = p
start_of (a ∷ l) p = point a

-- "`Homing::thin` then recomputes along": each crumb's from the one before it, the first keeping its own
unfoldable pub realong_behind : Crumb → List Crumb → List Crumb
realong_behind a [] = []
realong_behind a (b ∷ l) = let c = crumb_of (point b) (along_to a (point b)) in c ∷ realong_behind c l

unfoldable pub realong : List Crumb → List Crumb
realong [] = []
realong (a ∷ l) = a ∷ realong_behind a l
