-- `plane::wrapped` meets its contract: the tests are the rule's, and no step leaves the i64.
use Rattle.plane.proofs.Signed.{loses, gains, unmoved}
use Rattle.plane.proofs.wrapped.Goals as goal

pub overflow_sub-result : goal.overflow_sub-result
overflow_sub-result c = (loses c.args.d c.ranges.d c.if-d-gt1800000000.true).fits

pub returns-then-d-gt1800000000 : goal.returns-then-d-gt1800000000
returns-then-d-gt1800000000 c = (loses c.args.d c.ranges.d c.if-d-gt1800000000.true).result

pub overflow_add-result : goal.overflow_add-result
overflow_add-result c = (gains c.args.d c.ranges.d c.if-d-gt1800000000.false c.if-d-ltminus1800000000.true).fits

pub returns-then-d-ltminus1800000000 : goal.returns-then-d-ltminus1800000000
returns-then-d-ltminus1800000000 c = (gains c.args.d c.ranges.d c.if-d-gt1800000000.false c.if-d-ltminus1800000000.true).result

pub returns-else-d-ltminus1800000000 : goal.returns-else-d-ltminus1800000000
returns-else-d-ltminus1800000000 c = unmoved c.args.d c.ranges.d c.if-d-gt1800000000.false c.if-d-ltminus1800000000.false
