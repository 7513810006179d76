-- `records::read_bytes` gives as many bytes as are asked for: what is read to is so long, and stays so.
use Rattle.std.proofs.Common.{arith, ℕ}
use lib.ListN.{length-take}
use Rattle.records.proofs.read_bytes.Goals as goal

pub returns : goal.returns
returns c e = omega (arith, length-take {A = ℕ}, e.fill.auto.bytes, e.told-block, e.if-count-gt-BLOCK.false)
