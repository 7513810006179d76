-- `stored::stored_rebuild::rebuild_at` meets its contract.
use Rattle.stored.specs.Rebuilt.{rebuild_at}
use Rattle.stored.proofs.fields.Narrowing.{narrowed}
use Rattle.stored.proofs.stored_rebuild.rebuild_at.Goals as goal

pub returns : goal.returns
unfolding rebuild_at
returns c = simp (c.unwrap_or.ensures, narrowed 4294967295 _ _ c.try_from.ensures, ← c.stage_at.ensures)
