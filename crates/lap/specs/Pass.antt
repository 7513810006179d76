-- Passes of the start. Document 01, "Guide and event": "`StartPass` is stepped where it stands in the state lent to it"; the distances are
-- homing.rs's.
use Rattle.std.specs.Prelude.{Bool, false, cond, Float}
use Rattle.std.specs.Float.Ieee.{lt}
use Rattle.binary32.specs.Arithmetic.{constant}
use Rattle.lap.specs.declared.Stage.{Stage}
use Rattle.lap.specs.declared.Stage.TheVariants.{Spent, Armed, Inside}
use Rattle.lap.specs.declared.StartPass.{StartPass}

-- a pass counts once the rider was this far away, 100 m
unfoldable pub pass_arm_m : Float
pass_arm_m = constant 100 1

-- then came within this, 40 m
unfoldable pub pass_m : Float
pass_m = constant 40 1

-- and was this far away again, 50 m
unfoldable pub pass_end_m : Float
pass_end_m = constant 50 1

-- a pass after a step, and whether the step completed it
pub record Stepped : Type 0 where
  pub pass : StartPass
  pub passed : Bool

abbrev pub stepped : Stage → Bool → Stepped
stepped k b = record { pass = record { stage = k }; passed = b }

-- from each stage, at the distance d from the start
unfoldable pub from_stage : Stage → Float → Bool → Stepped
from_stage Spent d moving = cond (lt pass_arm_m d) (stepped Armed false) (stepped Spent false)
from_stage Armed d moving = cond (lt d pass_m) (stepped Inside false) (stepped Armed false)
from_stage Inside d moving = cond (lt pass_end_m d) (stepped Spent moving) (stepped Inside false)

unfoldable pub step_of : StartPass → Float → Bool → Stepped
unfolding from_stage
step_of p d moving = from_stage p.stage d moving
