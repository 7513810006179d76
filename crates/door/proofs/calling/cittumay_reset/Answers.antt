-- `door::calling::cittumay_reset` meets its contract.
use mathlib.Core.Path.{sym, ◌∙◌}
use Rattle.stored.proofs.Holding.{has_room}
use Rattle.door.proofs.calling.cittumay_reset.Goals as goal

pub keep-requires : goal.keep-requires
keep-requires c = has_room _ _ _ (sym c.load.ensures ∙ c.in-Some.is)
