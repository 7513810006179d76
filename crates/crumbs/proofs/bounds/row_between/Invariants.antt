-- `crumbs::bounds::row_between` tests each number.
use Prim.Native.Nat.{◌-◌, ◌*◌}
use Rattle.crumbs.specs.Crumb.{stride}
use Rattle.crumbs.specs.Bounds.{row_length}
use Rattle.crumbs.proofs.bounds.Rows.{Tested}
use Rattle.crumbs.proofs.bounds.row_between.Given as goal

abbrev pub invariant-loop-k : goal.invariant-loop-k
invariant-loop-k l = Tested l.least l.most l.buf l.at l.ok l.k

abbrev pub decreases-loop-k : goal.decreases-loop-k
decreases-loop-k l = stride * row_length - l.k
