-- How far from the origin the places of a ride lie. Definitions only.
use Rattle.std.proofs.Common.{T}
use lib.Ieee.{Float, binary32, fits}
use Rattle.binary32.proofs.magnitude.Size.{Within, pow}
use Rattle.plane.specs.declared.Point.{Point}

-- a value of binary32 of at most 2^25 m in size, 33,554,432 m
abbrev pub Coordinate : Float → Type 0
Coordinate x = T (fits binary32 x) × Within (pow 25) x

pub record Place (p : Point) : Type 0 where
  pub east : Coordinate p.east
  pub north : Coordinate p.north
