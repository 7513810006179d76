-- `search::at_along` meets its contract: going down from `end - 1` finds the rule's place.
use Prim.Native.Nat.{◌-◌, ◌<◌}
use mathlib.Core.Path.{◌≡◌}
use Rattle.search.specs.Along.{place_before}
use Rattle.search.proofs.at_along.Given as goal

abbrev pub invariant-loop-i : goal.invariant-loop-i
invariant-loop-i l =
    (l.i < l.end)
    × (place_before l.line l.along l.i ≡ place_before l.line l.along (l.end - 1))

abbrev pub decreases-loop-i : goal.decreases-loop-i
decreases-loop-i l = l.i
