-- `retelling::lines::Writer::put_decimal` meets its contract.
use Rattle.retelling.proofs.lines.Numbers.{puts-decimal}
use Rattle.retelling.proofs.lines.Writer.put_decimal.Goals as goal

pub returns : goal.returns
returns c = puts-decimal _ _ c.decimal-count.ensures.len c.decimal-count.ensures.digits c.put_word.ensures
