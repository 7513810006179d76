-- `search::ends` meets its contract: the places taken are those of the crumbs counted.
use mathlib.Core.Path.{◌∙◌}
use native.Mathlib.Omega.{arith}
use lib.Ieee.{le}
use lib.ListN.{length}
use Rattle.std.proofs.Common.{rules}
use Rattle.std.specs.List.{range_with_len}
use Rattle.std.proofs.lemmas.Iterator.{YieldsList-from_range}
use Rattle.std.proofs.lemmas.Iterator.Consumers.{count_from_yields_List}
use Rattle.std.proofs.lemmas.Iterator.Search.{YieldsList-from_take_while}
use Rattle.std.proofs.lemmas.List.Folds.{length-prefix_len}
use Rattle.crumbs.specs.Line.{at}
use Rattle.search.proofs.Walking.{ends-taken}
use Rattle.search.proofs.ends.Goals as goal

pub returns : goal.returns
returns c =
    let n = length c.args.line.now in
    let e = count_from_yields_List _ c.count.result c.count.ensures.ran
    (YieldsList-from_take_while _ (λ k. le (at c.args.line.now k).along c.args.limit)
    (YieldsList-from_range 0 c.len.result n c.take_while.ensures.source (omega (arith, c.len.ensures)))
    c.take_while.ensures.closure c.take_while.ensures.done (λ x b q k. search rules)) in
    let t = ends-taken c.args.line.now c.args.limit n 0 (omega arith) in
    e ∙ length-prefix_len _ (range_with_len 0 n) ∙ omega (arith, t)
