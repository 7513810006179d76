-- `thin::reach` is the rule's reach.
use Prim.Native.Nat.{◌-◌}
use Rattle.thin.proofs.Reaching.{Between, Ends}
use Rattle.thin.proofs.reach.Given as goal

abbrev pub invariant-loop-j : goal.invariant-loop-j
invariant-loop-j l = Between l.bounds.tolerance l.buf l.len l.anchor l.end l.j

abbrev pub decreases-loop-j : goal.decreases-loop-j
decreases-loop-j l = l.end - l.j

abbrev pub invariant-ends : goal.invariant-ends
invariant-ends l = Ends l.bounds.tolerance l.buf l.len l.anchor l.end

abbrev pub decreases-ends : goal.decreases-ends
decreases-ends l = l.len - l.end
