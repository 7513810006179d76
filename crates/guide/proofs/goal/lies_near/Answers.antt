-- `guide::goal::lies_near` meets its contract: a square past the bar has a root past 500 m.
use lib.Ieee.{of_bits}
use Rattle.binary32.specs.Arithmetic.{constant}
use Rattle.matching.specs.Distances.{drop_m}
use Rattle.guide.proofs.goal.Nearing.{lies, lies-not}
use Rattle.guide.proofs.goal.lies_near.Goals as goal

pub returns-then-square : goal.returns-then-square
unfolding drop_m constant of_bits
returns-then-square c = lies _ _ _ c.square_on-square.ensures c.sqrtf.ensures

pub returns : goal.returns
returns c = lies-not _ _ _ c.square_on-square.ensures c.if-square.false
