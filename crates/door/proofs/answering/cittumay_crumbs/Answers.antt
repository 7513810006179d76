-- `door::answering::cittumay_crumbs` meets its contract.
use mathlib.Core.Path.{sym, ◌∙◌}
use Rattle.door.proofs.answering.Answers.{part-returned}
use Rattle.door.proofs.answering.cittumay_crumbs.Goals as goal

pub returns : goal.returns
returns c =
    let part = c.crumbs.ensures in
    part-returned (sym c.load.ensures ∙ c.in-Some.is) _ part _ part.numbers part.held c.put_part.ensures.value c.put_part.ensures.counted
