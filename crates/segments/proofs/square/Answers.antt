-- `segments::square` meets its contract.
use Rattle.segments.proofs.square.Goals as goal

pub returns : goal.returns
returns c = cc
