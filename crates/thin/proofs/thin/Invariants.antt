-- `thin::thin` answers and leaves what the rule says.
use Prim.Native.Nat.{◌-◌}
use Rattle.thin.proofs.Thinning.{Going}
use Rattle.thin.proofs.thin.Given as goal

abbrev pub invariant-loop-kept : goal.invariant-loop-kept
invariant-loop-kept l = Going l.len l.tolerance l.target l.initial.buf l.buf l.kept l.doubled l.passes

abbrev pub decreases-loop-kept : goal.decreases-loop-kept
decreases-loop-kept l = 18 - l.passes
