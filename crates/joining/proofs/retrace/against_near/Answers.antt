-- `joining::retrace::against_near` meets its contract.
use lib.Ieee.{of_bits}
use Rattle.binary32.specs.Arithmetic.{constant}
use Rattle.joining.specs.Retrace.{retrace_m, against_near}
use Rattle.joining.proofs.retrace.against_near.Goals as goal

pub returns-in_default : goal.returns-in_default
unfolding against_near
returns-in_default c = simp c.in_default.is

pub returns-then-near : goal.returns-then-near
unfolding against_near retrace_m constant of_bits
returns-then-near c = simp (c.in-Some.is, c.if-near.true, c.backwards.ensures, c.crumb.ensures, c.crumb-then-near.ensures)

pub returns-else-near : goal.returns-else-near
unfolding against_near retrace_m constant of_bits
returns-else-near c = simp (c.in-Some.is, c.if-near.false)
