-- `trig::direction` meets its contract: it composes what its callees promise.
use Rattle.trig.specs.Fix.{direction}
use Rattle.trig.proofs.direction.Goals as goal

pub returns : goal.returns
unfolding direction
returns c =
    rw (
      c.westward.ensures,
      c.southward.ensures,
      c.eastward-g.ensures,
      c.arc.ensures,
      c.quotient.ensures,
      c.fabsf-n.ensures,
      c.fabsf-e.ensures,
    )
