-- Turns between two bearings. Document 01, "Guide and event": "Bearings and headings are 4096ths of a turn."
use Rattle.std.specs.Prelude.{ℕ, ◌+◌, ◌-◌, ◌*◌, ◌/◌, ◌%◌, Bool, false, not, ◌&&◌, leb, Option, Some, None}
use Rattle.plane.specs.Plane.{turn, bearing}
use Rattle.crumbs.specs.declared.Crumb.{Crumb}
use Rattle.crumbs.specs.Crumb.{point}

-- the turn from the bearing `way` to the bearing `heading`, clockwise
unfoldable pub turned : ℕ → ℕ → ℕ
turned heading way = (heading + turn - way) % turn

-- the turn from the way that leads from one crumb to another to a heading
unfoldable pub turned_from : ℕ → Crumb → Crumb → ℕ
turned_from heading from to = turned heading (bearing (point from) (point to))

-- homing.rs, `against`: whether the course from b to a runs against the rider's heading, a quarter of a turn aside or more
unfoldable pub against : Option ℕ → Crumb → Crumb → Bool
against None a b = false
against (Some heading) a b = let t = turned_from heading b a in leb (turn / 4) t && leb t (turn * 3 / 4)

-- homing.rs, `joining`: whether the course from b to a runs the rider's way, less than an eighth of a turn aside
unfoldable pub same_way : ℕ → Crumb → Crumb → Bool
same_way heading a b = let t = turned_from heading b a in not (leb (turn / 8) t && leb t (turn * 7 / 8))
