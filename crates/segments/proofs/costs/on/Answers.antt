-- `segments::costs::on` meets its contract: each operation is the rule's.
use lib.Ieee.{of_bits}
use Rattle.binary32.specs.Arithmetic.{constant}
use Rattle.segments.specs.CostConstants.{search_m, slip_m}
use Rattle.segments.specs.Cost.{on, back}
use Rattle.segments.proofs.costs.on.Goals as goal

pub returns-then-near : goal.returns-then-near
unfolding on back search_m slip_m constant of_bits
returns-then-near c = simp (c.if-near.true, ← c.contrary.ensures, ← c.max_zero-back.ensures, on)

pub returns : goal.returns
unfolding on search_m constant of_bits
returns c = simp (c.if-near.false, on)
