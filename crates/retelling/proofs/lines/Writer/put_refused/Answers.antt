-- `retelling::lines::Writer::put_refused` meets its contract.
use native.Mathlib.Omega.{arith}
use Rattle.retelling.specs.Text.{refused_text}
use Rattle.retelling.proofs.lines.Writing.{puts_then}
use Rattle.retelling.proofs.lines.Lengths.{puts-number}
use Rattle.retelling.proofs.lines.Writer.put_refused.Goals as goal

pub returns : goal.returns
unfolding refused_text
returns c =
    rw (← c.from.ensures) (puts-number _ (omega arith)
    (puts_then (puts_then c.put_word.ensures c.put_decimal.ensures) c.put_byte.ensures))
