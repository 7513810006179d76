-- `rebuild::hear_fix` meets its contract.
use mathlib.Core.Path.{sym, ◌∙◌}
use Rattle.update.proofs.Choosing.{picked}
use Rattle.rebuild.specs.Rebuild.{visit_fix}
use Rattle.rebuild.specs.Inner.{heard_makes}
use Rattle.rebuild.proofs.Visiting.{taken-up}
use Rattle.rebuild.proofs.hear_fix.Goals as goal

pub returns-then-skips : goal.returns-then-skips
unfolding visit_fix heard_makes
returns-then-skips c = picked _ _ _ (sym c.skips.ensures ∙ c.if-skips.true)

pub returns : goal.returns
returns c =
    let g = c.args in
    taken-up g.fix g.later g.utc g.r.now (sym c.skips.ensures ∙ c.if-skips.false) c.stage_behind-r.ensures c.starts_anew-anew.ensures
