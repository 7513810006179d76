-- `matching::followed::matched` meets its contract.
use mathlib.Core.Path.{ap, ◌∙◌}
use Rattle.std.specs.Prelude.{Some}
use Rattle.segments.specs.declared.costs.Nearest.{Nearest}
use Rattle.matching.proofs.followed.Lines.{matched-none, matched-some, matched-from}
use Rattle.matching.proofs.followed.matched.Goals as goal

pub returns-in_err-near : goal.returns-in_err-near
returns-in_err-near c = λ course s i.
    let p = c.args.p in
    let best = c.nearest in
    c.from_residual.ensures
    ∙ matched-none best.result course p s c.in_err-near.was
    ∙ matched-from i p c.search_from.result c.search_to.result best.result c.search_from.ensures c.search_to.ensures c.len.ensures
    (best.ensures course s i)

pub returns : goal.returns
returns c = λ course s i.
    let p = c.args.p in
    let best = c.nearest in
    ap (λ (n : Nearest). Some n) (c.widened.ensures course s i)
    ∙ matched-some best.result course p s c.in_ok-near.near c.in_ok-near.was
    ∙ matched-from i p c.search_from.result c.search_to.result best.result c.search_from.ensures c.search_to.ensures c.len.ensures
    (best.ensures course s i)
