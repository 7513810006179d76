-- `thin::pass` is the rule's pass, compacted in place.
use Prim.Native.Nat.{◌-◌}
use Rattle.thin.proofs.Passing.{Kept}
use Rattle.thin.proofs.pass.Given as goal

abbrev pub invariant-loop-anchor : goal.invariant-loop-anchor
invariant-loop-anchor l = Kept l.halve l.bounds.tolerance l.len l.initial.buf l.buf l.kept l.anchor

abbrev pub decreases-loop-anchor : goal.decreases-loop-anchor
decreases-loop-anchor l = l.len - l.anchor
