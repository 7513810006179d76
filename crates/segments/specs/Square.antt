-- For the functions inside: the square of how far a position is off a segment of a line, by which searches go that take no root.
use Rattle.std.specs.Prelude.{ℕ, ◌-◌, List, Float}
use Rattle.plane.specs.declared.Point.{Point}
use Rattle.crumbs.specs.declared.Crumb.{Crumb}
use Rattle.crumbs.specs.Crumb.{point}
use Rattle.plane.specs.Square.{off_square}
use Rattle.crumbs.specs.Line.{at}

unfoldable pub square_on : List Crumb → Point → ℕ → Float
square_on line p end = off_square p (point (at line (end - 1))) (point (at line end))
