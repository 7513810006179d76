-- `guide::goal::some_near` meets its contract: the ends below decide.
use lib.ListN.{length}
use Prim.Native.Nat.{◌-◌, ◌≤◌}
use mathlib.Core.Path.{◌≡◌}
use Rattle.guide.specs.Near.{some_near}
use Rattle.guide.proofs.goal.some_near.Given as goal

abbrev pub invariant-loop-end : goal.invariant-loop-end
invariant-loop-end l =
    (l.end ≤ length l.course) × (some_near l.course l.p (l.end - 1) ≡ some_near l.course l.p (length l.course - 1))
