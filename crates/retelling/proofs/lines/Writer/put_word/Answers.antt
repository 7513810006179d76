-- `retelling::lines::Writer::put_word` meets its contract.
use mathlib.Core.Path.{refl}
use native.Mathlib.Omega.{arith}
use Rattle.retelling.proofs.lines.Writing.{puts-none, puts-next, puts-whole}
use Rattle.retelling.proofs.lines.Writer.put_word.Goals as goal

pub loop-b-init : goal.loop-b-init
loop-b-init c = puts-none _

pub loop-b-preserved : goal.loop-b-preserved
loop-b-preserved c = puts-next _ _ c.loop-b.invariant (omega arith) refl c.put_byte.ensures

pub returns : goal.returns
returns c = puts-whole _ _ (omega arith) c.loop-b.invariant
