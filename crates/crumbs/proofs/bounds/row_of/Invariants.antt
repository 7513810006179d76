-- `crumbs::bounds::row_of` puts the crumb at each place.
use Prim.Native.Nat.{◌-◌}
use Rattle.crumbs.specs.Bounds.{row_length}
use Rattle.crumbs.proofs.bounds.Rows.{Filled}
use Rattle.crumbs.proofs.bounds.row_of.Given as goal

abbrev pub invariant-loop-i : goal.invariant-loop-i
invariant-loop-i l = Filled l.c l.row l.i

abbrev pub decreases-loop-i : goal.decreases-loop-i
decreases-loop-i l = row_length - l.i
