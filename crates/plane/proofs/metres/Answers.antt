-- `plane::metres` meets its contract.
use lib.Ieee.{of_bits}
use Rattle.binary32.specs.Arithmetic.{constant}
use Rattle.plane.specs.Plane.{metres}
use Rattle.plane.proofs.metres.Goals as goal

pub returns : goal.returns
unfolding metres constant of_bits
returns c = c.as_u32.ensures
