-- `matching::followed::widened` meets its contract.
use mathlib.Core.Path.{sym, ◌∙◌}
use Rattle.matching.proofs.followed.Lines.{widened-off, widened-on}
use Rattle.matching.proofs.followed.widened.Goals as goal

pub returns-then-lost : goal.returns-then-lost
returns-then-lost c = λ course s i.
    let g = c.args in
    let lost = sym c.lost.ensures ∙ c.if-lost.true in
    c.nearer.ensures ∙ widened-off i g.p g.near c.nearest.result lost c.len.ensures (c.nearest.ensures course s i)

pub returns : goal.returns
returns c = λ course s i.
    let g = c.args in
    widened-on i g.p g.near (sym c.lost.ensures ∙ c.if-lost.false)
