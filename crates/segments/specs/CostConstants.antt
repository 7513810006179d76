-- The distances of homing.rs that a match's cost goes by, in metres.
use Rattle.std.specs.Prelude.{Float}
use Rattle.binary32.specs.Arithmetic.{constant}

-- homing.rs, `nearest`: in the closures `on` and `ahead` a segment further off than this is out
unfoldable pub search_m : Float
search_m = constant 25 1

-- how far behind the furthest place reached costs nothing
unfoldable pub slip_m : Float
slip_m = constant 10 1

-- what a stretch against the rider's way costs
unfoldable pub against_m : Float
against_m = constant 5 1
