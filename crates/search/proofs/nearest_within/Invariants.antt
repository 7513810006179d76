-- `search::nearest_within` meets its contract: the ends still to be considered decide.
use Prim.Native.Nat.{◌-◌}
use Rattle.segments.specs.Segment.{considered, cost_within}
use Rattle.search.proofs.Searching.{Falls}
use Rattle.search.proofs.nearest_within.Given as goal

abbrev pub invariant-loop-end : goal.invariant-loop-end
invariant-loop-end l =
    Falls (considered l.line l.p (cost_within l.line l.p l.within l.by)) l.fn.ends l.best (l.end - 1)
