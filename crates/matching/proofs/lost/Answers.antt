-- `matching::lost` meets its contract.
use lib.Ieee.{of_bits}
use Rattle.binary32.specs.Arithmetic.{constant}
use Rattle.matching.specs.Distances.{off_m}
use Rattle.matching.proofs.lost.Goals as goal

pub returns-else-was : goal.returns-else-was
unfolding off_m constant of_bits
returns-else-was c = simp c.if-was.false
