-- `Crumbs::length_m` reads the last crumb of a line that has a segment.
use borrow.Author.Tests.{lt-leb, le-leb}
use Rattle.crumbs.specs.Length.{length_m}
use Rattle.crumbs.proofs.held.Crumbs.length_m.Goals as goal

pub returns-then-len-lt2 : goal.returns-then-len-lt2
unfolding length_m
returns-then-len-lt2 c = simp (lt-leb _ _ (rw c.len-len.ensures at c.if-len-lt2.true))

pub returns : goal.returns
unfolding length_m
returns c = simp (le-leb _ _ (rw c.len-len.ensures at c.if-len-lt2.false), ← (rw c.len-len.ensures at c.crumb.ensures))
