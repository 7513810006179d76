-- `search::rows::least_of` looks at each number.
use Rattle.search.specs.Rows.{LeastSoFar}
use Rattle.search.proofs.rows.least_of.Given as goal

abbrev pub invariant-loop-x : goal.invariant-loop-x
invariant-loop-x l = LeastSoFar l.bar l.row l.x-index l.least
