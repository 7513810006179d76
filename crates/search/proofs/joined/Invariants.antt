-- `search::joined` meets its contract: the ends below decide.
use lib.ListN.{length}
use Prim.Native.Nat.{◌-◌, ◌≤◌}
use mathlib.Core.Path.{◌≡◌}
use Rattle.search.specs.Course.{joined_from, joined}
use Rattle.search.proofs.joined.Given as goal

abbrev pub invariant-loop-end : goal.invariant-loop-end
invariant-loop-end l =
    (l.end ≤ length l.line)
    × (joined_from l.line l.p l.heading (l.end - 1) ≡ joined l.line l.p l.heading)
