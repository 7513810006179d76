-- `search::quick::along_row` meets its contract: the lead behind the segments tried.
use Prim.Native.Nat.{◌-◌, ◌≤◌}
use mathlib.Core.Path.{◌≡◌}
use Rattle.search.specs.Square.{leads_down}
use Rattle.search.specs.Rows.{row_length}
use Rattle.search.proofs.quick.along_row.Given as goal

abbrev pub invariant-loop-k : goal.invariant-loop-k
invariant-loop-k l = (l.k ≤ row_length) × (l.leading ≡ leads_down l.line l.p l.within l.k l.end l.initial.leading)

abbrev pub decreases-loop-k : goal.decreases-loop-k
decreases-loop-k l = row_length - l.k
