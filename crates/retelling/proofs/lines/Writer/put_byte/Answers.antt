-- `retelling::lines::Writer::put_byte` meets its contract.
use mathlib.Core.Path.{refl}
use Rattle.retelling.proofs.lines.Writing.{puts_byte, puts-full}
use Rattle.retelling.proofs.lines.Writer.put_byte.Goals as goal

pub returns-then-self : goal.returns-then-self
returns-then-self c = puts_byte c.if-self.true refl refl refl

pub returns-else-self : goal.returns-else-self
returns-else-self c = puts-full _ _ c.if-self.false
