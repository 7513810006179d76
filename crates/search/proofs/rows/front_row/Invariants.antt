-- `search::rows::front_row` meets its contract: the rows tried so far have one in front.
use Prim.Native.Nat.{◌+◌, ◌-◌, ◌≤◌}
use Rattle.search.specs.Rows.{row_length, InFront}
use Rattle.search.proofs.rows.front_row.Given as goal

abbrev pub invariant-loop-end : goal.invariant-loop-end
invariant-loop-end l =
    (l.ends.from ≤ l.end) × (l.end ≤ l.ends.to + 1) × InFront l.line l.p l.ends row_length l.end l.front

abbrev pub decreases-loop-end : goal.decreases-loop-end
decreases-loop-end l = l.ends.to + 1 - l.end
