-- `search::course_near` meets its contract: the ends still to be considered decide.
use lib.ListN.{length}
use Prim.Native.Nat.{◌-◌, ◌≤◌}
use Rattle.search.specs.Course.{cost_anywhere}
use Rattle.segments.specs.Segment.{considered}
use Rattle.search.specs.Search.{every}
use Rattle.search.proofs.Searching.{Falls}
use Rattle.search.proofs.course_near.Given as goal

abbrev pub invariant-loop-end : goal.invariant-loop-end
invariant-loop-end l =
    (l.end ≤ length l.line)
    × Falls (considered l.line l.p (cost_anywhere l.line l.p)) (every l.line) l.best
    (l.end - 1)
