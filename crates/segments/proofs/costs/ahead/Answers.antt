-- `segments::costs::ahead` meets its contract: the tests are the rule's.
use lib.Ieee.{of_bits}
use Rattle.binary32.specs.Arithmetic.{constant}
use Rattle.segments.specs.CostConstants.{search_m}
use Rattle.segments.specs.Cost.{ahead}
use Rattle.segments.proofs.costs.ahead.Goals as goal

pub returns-then-against : goal.returns-then-against
unfolding ahead search_m constant of_bits
returns-then-against c = simp (c.if-near.true, ← c.against.ensures, c.if-against.true, ahead)

pub returns-then-near : goal.returns-then-near
unfolding ahead search_m constant of_bits
returns-then-near c =
    simp (c.if-near.true, ← c.against.ensures, c.if-against.false, c.plain.ensures, ahead)

pub returns : goal.returns
unfolding ahead search_m constant of_bits
returns c = simp (c.if-near.false, ahead)
