-- `homing::asks_course` meets its contract.
use Rattle.std.proofs.Common.{rules, ◌≡◌, ℕ, ap, ◌∙◌}
use Rattle.refusal.specs.Refusal.{asked, number}
use Rattle.calls.specs.Questions.{asks_line}
use Rattle.calls.specs.Calls.{asks}
use Rattle.state.specs.State.{state_of}
use Rattle.homing.proofs.Calling.{or-this, or-next}
use Rattle.homing.proofs.asks_course.Goals as goal

pub returns-in_err-asks_line : goal.returns-in_err-asks_line
unfolding asks
returns-in_err-asks_line c = λ b.
    let g = c.args in
    let no : asked c.from_residual.result ≡ number c.in_err-asks_line.field-0.0 = search rules in
    no ∙ or-this _ (c.in_err-asks_line.ensures b ∙ ap (λ (n : ℕ). asks_line g.line.now n (state_of g.h.now b)) c.count.ensures) _

pub returns : goal.returns
unfolding asks
returns c = λ b.
    let g = c.args in
    or-next (c.in_ok-asks_line.ensures b ∙ ap (λ (n : ℕ). asks_line g.line.now n (state_of g.h.now b)) c.count.ensures)
    c.asks_fixes.ensures
