-- `search::rows::squares_from` works out each square.
use Prim.Native.Nat.{◌-◌}
use Rattle.search.specs.Rows.{row_length}
use Rattle.search.proofs.rows.Filling.{Worked}
use Rattle.search.proofs.rows.squares_from.Given as goal

abbrev pub invariant-loop-k : goal.invariant-loop-k
invariant-loop-k l = Worked l.line l.p l.first l.row l.k

abbrev pub decreases-loop-k : goal.decreases-loop-k
decreases-loop-k l = row_length - l.k
