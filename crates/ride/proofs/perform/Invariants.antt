-- `ride::perform` meets its contract.
use lib.ListN.{length}
use Rattle.ride.proofs.Performing.{Performing}
use Rattle.ride.proofs.perform.Given as goal

abbrev pub invariant-loop-call : goal.invariant-loop-call
invariant-loop-call l = Performing (length l.initial.working) l.calls l.initial.h l.initial.crumbs l.call-index l.crumbs l.h
