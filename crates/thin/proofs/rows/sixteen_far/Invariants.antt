-- `thin::rows::sixteen_far` tests each of the sixteen.
use Prim.Native.Nat.{◌+◌, ◌-◌, ◌≤◌}
use mathlib.Core.Path.{◌≡◌}
use mathlib.Core.Bool.{true}
use Rattle.thin.specs.Rows.{far, Each}
use Rattle.thin.proofs.rows.sixteen_far.Given as goal

abbrev pub invariant-loop-k : goal.invariant-loop-k
invariant-loop-k l = (l.k ≤ 16) × (l.all ≡ true → Each (far l.buf l.hi) l.first (l.first + l.k))

abbrev pub decreases-loop-k : goal.decreases-loop-k
decreases-loop-k l = 16 - l.k
