-- The slots of the records met are looked at, and the iterator meets those of the walk.
use Prim.Native.Nat.{◌-◌}
use lib.ListN.{length}
use Rattle.restart.proofs.Slots.{Meets}
use Rattle.restart.proofs.Stepping.{Going}
use Rattle.restart.proofs.walk_slots.Given as goal

abbrev pub invariant-loop-index : goal.invariant-loop-index
invariant-loop-index l =
    Going l.budget l.upper l.stop l.file l.initial.r l.initial.h l.initial.crumbs (length l.yielded) l.r l.h l.crumbs
    × Meets l.file l.initial.r.walk.slot (l.stop - l.initial.r.walk.slot) l.initial.index-iterator
