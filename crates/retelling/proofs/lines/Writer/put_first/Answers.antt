-- `retelling::lines::Writer::put_first` meets its contract.
use Rattle.retelling.proofs.lines.Writing.{puts_then}
use Rattle.retelling.specs.Text.{first_line}
use Rattle.retelling.proofs.lines.Writer.put_first.Goals as goal

pub returns : goal.returns
unfolding first_line
returns c =
    puts_then (puts_then (puts_then (puts_then (puts_then (puts_then c.put_word.ensures c.put_decimal.ensures) c.put_word-2.ensures)
    c.put_decimal-2.ensures) c.put_word-3.ensures) c.put_stage.ensures) c.put_byte.ensures
