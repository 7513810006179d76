-- `homing::asks_replay` meets its contract.
use Rattle.std.proofs.Common.{rules, ◌≡◌, ◌∙◌}
use Rattle.refusal.specs.Refusal.{asked, number}
use Rattle.calls.specs.Calls.{asks}
use Rattle.homing.proofs.Calling.{or-this, or-next}
use Rattle.homing.proofs.asks_replay.Goals as goal

pub returns-in_err-asks_crumbs : goal.returns-in_err-asks_crumbs
unfolding asks
returns-in_err-asks_crumbs c = λ at.
    let no : asked c.from_residual.result ≡ number c.in_err-asks_crumbs.field-0.0 = search rules in
    no ∙ or-this _ c.in_err-asks_crumbs.ensures _

pub returns : goal.returns
unfolding asks
returns c = λ at. or-next c.in_ok-asks_crumbs.ensures c.asks_fix.ensures
