-- `course::place_all` places every point, the last first.
use Prim.Native.Nat.{◌-◌}
use Rattle.course.proofs.Placing.{Placing}
use Rattle.course.proofs.place_all.Given as goal

abbrev pub invariant-loop-k : goal.invariant-loop-k
invariant-loop-k l = Placing l.f l.lats l.lons l.initial.line l.line l.n l.k

abbrev pub decreases-loop-k : goal.decreases-loop-k
decreases-loop-k l = l.n - l.k
