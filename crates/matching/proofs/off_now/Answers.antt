-- `matching::off_now` meets its contract.
use lib.Ieee.{of_bits}
use Rattle.binary32.specs.Arithmetic.{constant}
use Rattle.matching.specs.Distances.{off_m, on_m}
use Rattle.matching.specs.Match.{off_now}
use Rattle.matching.proofs.off_now.Goals as goal

pub returns-then-was : goal.returns-then-was
unfolding off_now on_m constant of_bits
returns-then-was c = rw c.if-was.true

pub returns : goal.returns
unfolding off_now off_m constant of_bits
returns c = rw c.if-was.false
