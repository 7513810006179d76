-- `segments::costs::contrary` meets its contract: the test is the rule's.
use lib.Ieee.{of_bits}
use Rattle.binary32.specs.Arithmetic.{constant}
use Rattle.segments.specs.CostConstants.{against_m}
use Rattle.segments.specs.Cost.{contrary}
use Rattle.segments.proofs.costs.contrary.Goals as goal

pub returns-then-against : goal.returns-then-against
unfolding contrary against_m constant of_bits
returns-then-against c = simp (← c.against.ensures, c.if-against.true, contrary)

pub returns : goal.returns
unfolding contrary of_bits
returns c = simp (← c.against.ensures, c.if-against.false, contrary)
