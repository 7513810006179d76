-- `stored::stored_rebuild::stage_at` meets its contract.
use mathlib.Core.Path.{◌∙◌, sym}
use Rattle.stored.specs.Rebuilt.{stage_read, utc_read}
use Rattle.stored.proofs.stored_rebuild.stage_at.Goals as goal

pub returns-then-flag_at : goal.returns-then-flag_at
unfolding stage_read utc_read
returns-then-flag_at c = simp (c.then_some.ensures, c.flag_at-known.ensures, sym c.flag_at.ensures ∙ c.if-flag_at.true)

pub returns : goal.returns
unfolding stage_read
returns c = simp (sym c.flag_at.ensures ∙ c.if-flag_at.false)
