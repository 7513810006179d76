-- `ride::perform` meets its contract.
use Rattle.ride.proofs.Performing.{breaks-off, goes_on, ends}
use Rattle.ride.proofs.perform.Goals as goal

pub returns-then-not-has_room : goal.returns-then-not-has_room
returns-then-not-has_room c =
    breaks-off c.loop-call.invariant _ c.loop-call-test.true c.loop-call.auto.working c.if-not-has_room.ensures

pub loop-call-preserved : goal.loop-call-preserved
loop-call-preserved c =
    goes_on c.loop-call.invariant _ c.loop-call-test.true c.loop-call.auto.working c.if-not-has_room.ensures c.step.ensures

pub returns : goal.returns
returns c = ends c.loop-call.invariant c.loop-call-test.false
