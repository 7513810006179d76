-- `questions::counts::crumbs_fit` meets its contract: those passed and those to come are all.
use Prim.Native.Nat.{◌-◌}
use Rattle.questions.proofs.counts.Scans.{Passing}
use Rattle.questions.proofs.counts.crumbs_fit.Given as goal

abbrev pub invariant-loop-i : goal.invariant-loop-i
invariant-loop-i l = Passing l.len l.buf l.ok l.i

abbrev pub decreases-loop-i : goal.decreases-loop-i
decreases-loop-i l = l.len - l.i
