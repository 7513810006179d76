-- `search::quick::plainly_within` meets its contract: the lead by squares follows the rule's best.
use Prim.Native.Nat.{◌-◌}
use Rattle.search.proofs.quick.Leading.{Chases}
use Rattle.search.proofs.quick.plainly_within.Given as goal

abbrev pub invariant-loop-end : goal.invariant-loop-end
invariant-loop-end l = Chases l.line l.p l.within l.fn.ends l.lead (l.end - 1)
