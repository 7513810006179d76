-- `update::follow_on` meets its contract.
use mathlib.Core.Path.{◌∙◌}
use Rattle.update.proofs.Deciding.{stays, meets, line_of, met-in}
use Rattle.update.proofs.follow_on.Goals as goal

pub returns-in_default : goal.returns-in_default
returns-in_default c = λ course s i.
    let g = c.args in
    let best = c.matched-best.ensures course s i in
    (λ C at. stays C at course g.p s best c.in_default.is, tt)

pub returns : goal.returns
returns c = λ course s i.
    let g = c.args in
    let best = c.matched-best.ensures course s i in
    let told = c.in-Some.is in (
      λ C at. meets C at course g.p s best told ∙ c.matched_to.ensures.comes C at course g.p s (line_of i),
      c.matched_to.ensures.stays_in _ (met-in i g.p c.requires.0 best told),
    )
