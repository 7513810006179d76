-- `door::rebuilding::cittumay_rebuild_step` meets its contract.
use mathlib.Core.Path.{sym, ◌∙◌}
use Rattle.stored.proofs.Holding.{has_room, rebuild-has-room}
use Rattle.door.proofs.rebuilding.cittumay_rebuild_step.Goals as goal

pub keep_both-requires : goal.keep_both-requires
keep_both-requires c = record {
  rebuild_count_in_bounds = rebuild-has-room _ _ (sym c.load_rebuild.ensures ∙ c.in-Some.is);
  word_count_in_bounds = has_room _ _ _ (sym c.load.ensures ∙ c.in-Some-load.is);
}
