-- `motion::renewed` meets its contract.
use Rattle.motion.specs.Heading.{renewed}
use Rattle.motion.proofs.renewed.Goals as goal

pub returns : goal.returns
unfolding renewed
returns c = simp (← c.bearing.ensures)
