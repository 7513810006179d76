-- `matching::smaller` meets its contract.
use mathlib.Core.Path.{sym}
use Rattle.matching.proofs.Minimum.{first-smaller, second-smaller, only-first}
use Rattle.matching.proofs.smaller.Goals as goal

pub returns-then-a-b : goal.returns-then-a-b
returns-then-a-b c = sym (first-smaller _ _ c.if-a-b.true)

pub returns-then-b : goal.returns-then-b
returns-then-b c = sym (second-smaller _ _ c.if-a-b.false c.if-b.true)

pub returns : goal.returns
returns c = sym (only-first _ _ c.if-b.false)
