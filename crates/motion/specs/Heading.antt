-- The heading. Document 01, "Fix": "Heading renews after 15 m and is stale after more than 15,000 ms."
use Rattle.std.specs.Prelude.{ℕ, ◌-◌, cond, ltb, Float, Option, Some, None}
use Rattle.std.specs.Float.Ieee.{le}
use Rattle.binary32.specs.Arithmetic.{constant}
use Rattle.plane.specs.declared.Point.{Point}
use Rattle.plane.specs.Plane.{distance, bearing}
use Rattle.motion.specs.declared.Motion.{Motion}

-- "clock in ms (u64, may go back; differences stop at 0)"
abbrev pub elapsed : ℕ → ℕ → ℕ
elapsed now then = now - then

unfoldable pub heading_step_m : Float
heading_step_m = constant 15 1

abbrev pub heading_stale_ms : ℕ
heading_stale_ms = 15000

-- a place, or p where it is missing
unfoldable pub spot_or : Option Point → Point → Point
spot_or (Some q) p = q
spot_or None p = p

unfoldable pub renewed : Point → Point → ℕ → Motion
renewed from p now = record { from = Some p; heading = Some (bearing from p); heading_ms = now }

unfoldable pub aged : Motion → Point → ℕ → Motion
aged m from now =
    let stale = ltb heading_stale_ms (elapsed now m.heading_ms) in
    record { from = Some from; heading = cond stale None m.heading; heading_ms = m.heading_ms }

-- the motion after a fix at p: the first fix is where the heading is taken from
unfoldable pub track_heading : Motion → Point → ℕ → Motion
track_heading m p now =
    let from = spot_or m.from p in
    cond (le heading_step_m (distance from p)) (renewed from p now) (aged m from now)
