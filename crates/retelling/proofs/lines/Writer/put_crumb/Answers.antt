-- `retelling::lines::Writer::put_crumb` meets its contract.
use Rattle.retelling.proofs.lines.Writing.{puts_then}
use Rattle.retelling.specs.Text.{crumb_line}
use Rattle.retelling.proofs.lines.Writer.put_crumb.Goals as goal

pub returns : goal.returns
unfolding crumb_line
returns c =
    puts_then (puts_then (puts_then (puts_then (puts_then c.put_pattern.ensures c.put_byte.ensures) c.put_pattern-2.ensures)
    c.put_byte-2.ensures) c.put_pattern-3.ensures) c.put_byte-3.ensures
