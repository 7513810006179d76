-- `crumbs::along::realong` recomputes along from the second crumb on.
use Prim.Native.Nat.{◌-◌}
use Rattle.crumbs.proofs.along.Line.{Going}
use Rattle.crumbs.proofs.along.realong.Given as goal

abbrev pub invariant-loop-i : goal.invariant-loop-i
invariant-loop-i l = Going l.len l.initial.crumbs l.crumbs l.i

abbrev pub decreases-loop-i : goal.decreases-loop-i
decreases-loop-i l = l.len - l.i
