-- `homing::missing` meets its contract.
use Rattle.std.proofs.Common.{rules, ◌≡◌, refl, sym, None, Err}
use Rattle.calls.specs.Fix.{missing, observe}
use Rattle.calls.specs.Calls as call
use Rattle.calls.specs.Calls.{asks, asks_place, course_in, performs}
use Rattle.answers.proofs.Answering.{no, yes}
use Rattle.homing.proofs.Calling.{or-nothing, refuses, takes}
use Rattle.homing.proofs.missing.Goals as goal

pub returns-in_err-asks_both : goal.returns-in_err-asks_both
unfolding asks asks_place
returns-in_err-asks_both c =
    let g = c.args in
    let e : c.from_residual.result ≡ Err c.in_err-asks_both.field-0.0 = search rules in
    let told = or-nothing c.in_err-asks_both.ensures in
    record { answered = no e told _; called = refuses (call.Observe g.line.now None g.now_ms) g.h.now g.crumbs.now _ told }

pub returns : goal.returns
unfolding asks asks_place observe performs missing
returns c =
    let g = c.args in
    let b = g.crumbs.now in
    let told = or-nothing c.in_ok-asks_both.ensures in
    record {
      answered = yes told refl;
      called = takes (call.Observe g.line.now None g.now_ms) g.h.now c.missing.new.h b b (sym told) (c.missing.ensures.same b) refl refl;
    }
