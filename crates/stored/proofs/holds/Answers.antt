-- `stored::holds` meets its contract.
use Rattle.stored.specs.Stored.{mosts}
use Rattle.stored.proofs.holds.Goals as goal

pub returns-then-words-eq-MARK : goal.returns-then-words-eq-MARK
unfolding mosts
returns-then-words-eq-MARK c = simp (c.if-words-eq-MARK.true, c.within.ensures)
