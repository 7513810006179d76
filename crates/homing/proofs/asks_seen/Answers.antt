-- `homing::asks_seen` meets its contract.
use Rattle.std.proofs.Common.{rules, ◌≡◌, ◌∙◌}
use Rattle.refusal.specs.Refusal.{asked, number}
use Rattle.calls.specs.Calls.{asks, asks_place}
use Rattle.homing.proofs.Calling.{or-this, or-next}
use Rattle.homing.proofs.asks_seen.Goals as goal

pub returns-in_err-asks_both : goal.returns-in_err-asks_both
unfolding asks asks_place
returns-in_err-asks_both c = λ at.
    let no : asked c.from_residual.result ≡ number c.in_err-asks_both.field-0.0 = search rules in
    no ∙ or-this _ c.in_err-asks_both.ensures _

pub returns : goal.returns
unfolding asks asks_place
returns c = λ at. or-next c.in_ok-asks_both.ensures c.asks_fix.ensures
