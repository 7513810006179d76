-- `questions::counts::window_fits` meets its contract: those passed fit.
use Prim.Native.Nat.{◌-◌}
use Rattle.questions.proofs.counts.Scans.{Waiting}
use Rattle.questions.proofs.counts.window_fits.Given as goal

abbrev pub invariant-loop-i : goal.invariant-loop-i
invariant-loop-i l = Waiting l.window_len l.window l.ok l.i

abbrev pub decreases-loop-i : goal.decreases-loop-i
decreases-loop-i l = l.window_len - l.i
