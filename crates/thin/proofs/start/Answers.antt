-- `thin::start` begins behind crumbs from which the rule's step is one.
use native.Mathlib.Omega.{arith}
use Rattle.thin.proofs.Rowing.{one_by_one}
use Rattle.thin.proofs.start.Goals as goal

pub returns-then-halve : goal.returns-then-halve
returns-then-halve c = record { within = omega (arith, c.requires); each = λ i h. absurd (omega arith) }

pub returns : goal.returns
returns c = one_by_one c.args.bounds.over c.if-halve.false c.far_from_start.ensures
