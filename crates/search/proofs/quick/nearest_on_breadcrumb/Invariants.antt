-- `search::quick::nearest_on_breadcrumb` meets its contract: the lead by squares follows the rule's best.
use Rattle.search.proofs.quick.Leading.{Races}
use Rattle.search.proofs.quick.nearest_on_breadcrumb.Given as goal

abbrev pub invariant-loop-end : goal.invariant-loop-end
invariant-loop-end l = Races l.line l.p l.within l.fn.ends l.lead l.end
