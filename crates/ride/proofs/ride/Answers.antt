-- `ride::ride` meets its contract.
use Rattle.ride.proofs.Riding.{rides, stays}
use Rattle.ride.proofs.ride.Goals as goal

pub returns-then-is_err : goal.returns-then-is_err
returns-then-is_err c = stays c.new-answer.ensures c.args.working.now c.if-is_err.ensures.value

pub returns : goal.returns
returns c = rides c.new-answer.ensures c.if-is_err.ensures.value c.perform.ensures c.perform.auto.working
