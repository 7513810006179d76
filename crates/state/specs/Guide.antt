-- The guide's arrow. homing.rs: "The arrow's angle: relative to the heading, or north up without one."
use Rattle.std.specs.Prelude.{ℕ, ◌+◌, ◌-◌, ◌%◌, Option, Some, None}
use Rattle.plane.specs.Plane.{turn}
use Rattle.state.specs.declared.Guide.{Guide}

abbrev pub arrow_from : Option ℕ → ℕ → ℕ
arrow_from (Some heading) bearing = (bearing + turn - heading) % turn
arrow_from None bearing = bearing

unfoldable pub arrow : Guide → ℕ
arrow g = arrow_from g.heading g.bearing
