-- `search::share_along` meets its contract: the test is the rule's.
use mathlib.Core.Path.{◌∙◌}
use lib.Ieee.{of_bits}
use Rattle.search.proofs.Sharing.{share-long, share-short}
use Rattle.search.proofs.share_along.Goals as goal

pub returns-then-span : goal.returns-then-span
unfolding of_bits
returns-then-span c =
    let g = c.args in
    c.clamp.ensures ∙ share-long g.a g.b g.along c.if-span.true

pub returns : goal.returns
unfolding of_bits
returns c =
    let g = c.args in
    share-short g.a g.b g.along c.if-span.false
