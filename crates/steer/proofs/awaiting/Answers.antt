-- `steer::awaiting` meets its contract.
use Rattle.calls.specs.Line.{awaiting}
use Rattle.steer.proofs.awaiting.Goals as goal

pub returns : goal.returns
unfolding awaiting
returns c = c.lined.ensures
