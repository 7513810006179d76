-- `follow::follow_parts::along_at` meets its contract.
use borrow.Author.Tests.{lt-ltb, le-ltb}
use lib.Ieee.{of_bits}
use Rattle.follow.specs.Parts.{along_at}
use Rattle.follow.proofs.follow_parts.along_at.Goals as goal

pub returns-then-end-len : goal.returns-then-end-len
unfolding along_at of_bits
returns-then-end-len c = simp (lt-ltb _ _ (rw c.len.ensures at c.if-end-len.true), ← c.crumb.ensures)

pub returns : goal.returns
unfolding along_at of_bits
returns c = simp (le-ltb _ _ (rw c.len.ensures at c.if-end-len.false))
