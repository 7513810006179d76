-- The passes of the start, which is where the rider first moves. homing.rs, `step_pass`.
use Rattle.std.specs.Prelude.{Bool, true, false, ◌||◌, Option, Some, None, ℕ}
use Rattle.plane.specs.declared.Point.{Point}
use Rattle.plane.specs.Plane.{distance}
use Rattle.lap.specs.declared.Lap.{Lap}
use Rattle.lap.specs.Pass.{step_of}

-- the rider moves while there is a heading
unfoldable pub moving_at : Option ℕ → Bool
moving_at (Some heading) = true
moving_at None = false

unfoldable pub lap_start : Bool → Option Point → Point → Option Point
lap_start moving (Some from) p = Some from
lap_start true None p = Some p
lap_start false None p = None

-- the lap at a position, with a completed pass noted in it: nothing completes before the rider has moved
unfoldable pub step_from : Option Point → Lap → Point → Bool → Lap
step_from None l p moving = record { pass = l.pass; start = None; passed = l.passed }
step_from (Some from) l p moving =
    let d = step_of l.pass (distance p from) moving in
    record { pass = d.pass; start = Some from; passed = d.passed || l.passed }

unfoldable pub step_pass : Lap → Point → Option ℕ → Lap
step_pass l p heading = let moving = moving_at heading in step_from (lap_start moving l.start p) l p moving
