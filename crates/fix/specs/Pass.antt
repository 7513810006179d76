-- For the functions inside: what `pass_only` makes of the lap.
use Rattle.plane.specs.declared.Point.{Point}
use Rattle.std.specs.Prelude.{Option, ℕ}
use Rattle.lap.specs.declared.Lap.{Lap}
use Rattle.lap.specs.Lap.{step_pass}

unfoldable pub passing : Point → Option ℕ → Lap → Lap
passing p heading l = let n = step_pass l p heading in record { pass = n.pass; start = n.start; passed = l.passed }
