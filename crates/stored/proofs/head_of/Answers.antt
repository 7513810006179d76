-- `stored::head_of` meets its contract.
use Rattle.stored.specs.Stored.{head_of}
use Rattle.stored.proofs.head_of.Goals as goal

pub returns : goal.returns
unfolding head_of
returns c =
    simp (
      ← c.point_in-here.ensures,
      ← c.point_in-from.ensures,
      ← c.point_in-matched.ensures,
      ← c.point_in-fix.ensures,
      ← c.point_in-start.ensures,
    )
