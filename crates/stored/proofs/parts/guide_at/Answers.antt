-- `stored::parts::guide_at` meets its contract.
use Rattle.stored.specs.Parts.{guide_read}
use Rattle.stored.proofs.fields.Narrowing.{narrowed}
use Rattle.stored.proofs.parts.guide_at.Goals as goal

pub returns : goal.returns
unfolding guide_read
returns c = simp (
  ← c.mode_of.ensures,
  ← c.flag_at.ensures,
  ← c.flag_at-2.ensures,
  ← c.flag_at-3.ensures,
  c.unwrap_or.ensures,
  narrowed 4294967295 _ _ c.try_from.ensures,
  c.unwrap_or-2.ensures,
  narrowed 4294967295 _ _ c.try_from-2.ensures,
  c.unwrap_or-3.ensures,
  narrowed 4294967295 _ _ c.try_from-3.ensures,
  c.unwrap_or-4.ensures,
  narrowed 65535 _ _ c.try_from-4.ensures,
  ← c.heading_at.ensures,
)
