-- `trail::Trail::strays` looks at each place that waits: none before the present one strays.
use Prim.Native.Nat.{◌-◌, ◌≤◌}
use mathlib.Core.Path.{◌≡◌}
use mathlib.Core.Bool.{false}
use Rattle.trail.specs.Trail.{strays}
use Rattle.trail.specs.View.{places}
use Rattle.trail.proofs.Trail.strays.Given as goal

abbrev pub invariant-loop-i : goal.invariant-loop-i
invariant-loop-i l = (l.i ≤ l.self.window_len) × (strays l.self.tolerance l.anchor l.p (places l.i l.window) ≡ false)

abbrev pub decreases-loop-i : goal.decreases-loop-i
decreases-loop-i l = l.self.window_len - l.i
