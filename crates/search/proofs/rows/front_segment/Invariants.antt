-- `search::rows::front_segment` meets its contract: what no number looked at is less than.
use Prim.Native.Nat.{◌-◌, ◌<◌}
use Rattle.search.specs.Rows.{row_length, LeastSoFar}
use Rattle.search.proofs.rows.front_segment.Given as goal

abbrev pub invariant-loop-k : goal.invariant-loop-k
invariant-loop-k l = (l.k < row_length) × LeastSoFar l.front.before l.row l.k l.before

abbrev pub decreases-loop-k : goal.decreases-loop-k
decreases-loop-k l = row_length - l.k
