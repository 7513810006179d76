-- Each word of a rebuild is within its type. Assumes nothing.
use Prim.Native.Nat.{◌≤◌}
use native.Mathlib.Omega.{arith}
use Rattle.rebuild.specs.declared.Stage.{Stage as Pending}
use Rattle.rebuild.specs.declared.Stage.TheVariants as pending
use Rattle.stored.specs.Rebuilt.{rebuild_mark, pending_flag}

pub pending-most : (s : Pending) → pending_flag s ≤ 1
pending-most (pending.Pending t) = omega arith
pending-most pending.Decided = omega arith

pub rebuild-mark-most : rebuild_mark ≤ rebuild_mark
rebuild-mark-most = omega arith
