-- `retelling::retell` meets its contract: what the writer leaves is what the text holds.
use Rattle.std.proofs.Common.{rules}
use mathlib.Core.Path.{refl}
use Rattle.retelling.proofs.Retelling.{retells}
use Rattle.retelling.proofs.retell.Goals as goal

pub returns : goal.returns
returns c = let same = c.put_told.ensures.puts.same in retells c.rebuild_chain-chain.ensures refl c.put_told.ensures (search rules)
