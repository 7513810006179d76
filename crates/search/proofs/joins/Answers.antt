-- `search::joins` meets its contract: the tests are the rule's, and what its square says is further off than 25 m is not joined. Assumes
-- nothing.
use lib.Ieee.{of_bits}
use Rattle.binary32.specs.Arithmetic.{constant}
use Rattle.crumbs.specs.Crumb.{point}
use Rattle.search.specs.Course.{join_m, joins}
use Rattle.search.proofs.Joining.{not-joined}
use Rattle.search.proofs.joins.Goals as goal

pub returns-then-not-off_square : goal.returns-then-not-off_square
unfolding joins join_m constant of_bits
returns-then-not-off_square c =
    let g = c.args in
    let e = c.off_square.ensures in
    let k = not-joined g.p (point g.a) (point g.b)
    (simp (← c.from-from.ensures, ← c.from-to.ensures, ← e) c.if-not-off_square.true) in
    simp k

pub returns-then-off_segment : goal.returns-then-off_segment
unfolding joins join_m constant of_bits
returns-then-off_segment c =
    simp (
      ← c.from-from.ensures,
      ← c.from-to.ensures,
      ← c.off_segment.ensures,
      c.if-off_segment.true,
      c.same_way.ensures,
    )

pub returns : goal.returns
unfolding joins join_m constant of_bits
returns c =
    simp (← c.from-from.ensures, ← c.from-to.ensures, ← c.off_segment.ensures, c.if-off_segment.false)
