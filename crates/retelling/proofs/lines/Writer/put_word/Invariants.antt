-- Behind what stood before are the bytes of the word that are passed.
use lib.ListN.{take}
use Rattle.retelling.specs.Writing.{Puts}
use Rattle.retelling.proofs.lines.Writer.put_word.Given as goal

abbrev pub invariant-loop-b : goal.invariant-loop-b
invariant-loop-b l = Puts (take l.b-index l.word) l.initial.self l.self
