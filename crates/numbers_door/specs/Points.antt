-- For the functions inside: a point from its two numbers.
use Rattle.std.specs.Prelude.{Float}
use Rattle.plane.specs.declared.Point.{Point}

abbrev pub point_of : Float → Float → Point
point_of east north = record { east = east; north = north }
