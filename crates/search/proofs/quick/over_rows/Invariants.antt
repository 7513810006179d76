-- `search::quick::over_rows` meets its contract: the lead behind the rows tried.
use Rattle.search.specs.Square.{Passes}
use Rattle.search.proofs.quick.over_rows.Given as goal

abbrev pub invariant-loop-end : goal.invariant-loop-end
invariant-loop-end l =
    Passes l.line l.p l.within l.ends l.initial.leading (record { lead = l.leading; end = l.end })

abbrev pub decreases-loop-end : goal.decreases-loop-end
decreases-loop-end l = l.end
