-- `retelling::lines::Writer::put_rebuilt` meets its contract.
use native.Mathlib.Omega.{arith}
use Rattle.retelling.proofs.lines.Lengths.{puts-first}
use Rattle.retelling.proofs.lines.Writer.put_rebuilt.Goals as goal

pub returns : goal.returns
returns c = puts-first _ _ _ _ c.requires (omega arith) c.put_first.ensures c.put_crumbs.ensures
