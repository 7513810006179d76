-- `guide::goal::mode_of` meets its contract.
use Rattle.guide.specs.Goal.{mode_of}
use Rattle.guide.proofs.goal.mode_of.Goals as goal

pub returns-then-arrived : goal.returns-then-arrived
unfolding mode_of
returns-then-arrived c = rw c.if-arrived.true

pub returns : goal.returns
unfolding mode_of
returns c = rw c.if-arrived.false
