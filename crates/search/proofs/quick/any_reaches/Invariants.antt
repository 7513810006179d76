-- `search::quick::any_reaches` tests each segment.
use Prim.Native.Nat.{◌-◌}
use Rattle.search.specs.Rows.{row_length}
use Rattle.search.proofs.quick.Passing.{Tested}
use Rattle.search.proofs.quick.any_reaches.Given as goal

abbrev pub invariant-loop-k : goal.invariant-loop-k
invariant-loop-k l = Tested l.line l.within l.end l.any l.k

abbrev pub decreases-loop-k : goal.decreases-loop-k
decreases-loop-k l = row_length - l.k
