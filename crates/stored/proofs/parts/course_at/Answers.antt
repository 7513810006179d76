-- `stored::parts::course_at` meets its contract.
use Rattle.stored.specs.Parts.{course_at}
use Rattle.stored.proofs.fields.Narrowing.{narrowed}
use Rattle.stored.proofs.parts.course_at.Goals as goal

pub returns : goal.returns
unfolding course_at
returns c = simp (
  ← c.flag_at.ensures,
  ← c.flag_at-2.ensures,
  c.unwrap_or.ensures,
  narrowed 255 _ _ c.try_from.ensures,
  ← c.spot_at.ensures,
)
