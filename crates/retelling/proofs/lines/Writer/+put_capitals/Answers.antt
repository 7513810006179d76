-- `retelling::lines::Writer::put_capitals` meets its contract.
use Rattle.retelling.proofs.lines.Writing.{puts-none}
use Rattle.retelling.proofs.lines.Numbers.{puts-no-capital, puts-capital}
use Rattle.retelling.proofs.lines.Writer.+put_capitals.Goals as goal

pub returns-then-count-eq0 : goal.returns-then-count-eq0
returns-then-count-eq0 t c = puts-no-capital _ _ c.if-count-eq0.true (puts-none _)

pub returns : goal.returns
returns t c = puts-capital _ _ c.if-count-eq0.false c.capital.ensures c.put_capitals.ensures c.put_byte.ensures
