-- `matching::still_off` meets its contract.
use Rattle.matching.proofs.still_off.Goals as goal

pub returns-then-due : goal.returns-then-due
returns-then-due c = rw c.if-due.true

pub returns : goal.returns
returns c = rw c.if-due.false
