-- The distances of a following, in metres. Document 01, "Guide and event"; homing.rs, `update`.
use Rattle.std.specs.Prelude.{Float}
use Rattle.binary32.specs.Arithmetic.{constant}

-- "Off sets above 50 m and clears at 25 m or less."
unfoldable pub off_m : Float
off_m = constant 50 1

unfoldable pub on_m : Float
on_m = constant 25 1

-- homing.rs, `LOOKAHEAD_M`: the point steered to lies this far ahead
unfoldable pub lookahead_m : Float
lookahead_m = constant 40 1

-- "Dropped above 500 m."; homing.rs, `course_near`: a course is near within this
unfoldable pub drop_m : Float
drop_m = constant 500 1
