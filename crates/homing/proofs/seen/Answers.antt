-- `homing::seen` meets its contract.
use Rattle.std.proofs.Common.{rules, ◌≡◌, refl, sym, Some, Err}
use Rattle.calls.specs.Fix.{seen, observe}
use Rattle.calls.specs.Calls as call
use Rattle.calls.specs.Calls.{asks, asks_place, course_in, performs}
use Rattle.state.specs.State.{state_of}
use Rattle.questions.proofs.Given.{both-given, neither}
use Rattle.answers.proofs.Answering.{no, yes}
use Rattle.homing.proofs.Calling.{refuses, takes-rule, ready}
use Rattle.homing.proofs.seen.Goals as goal

pub returns-in_err-asks_seen : goal.returns-in_err-asks_seen
returns-in_err-asks_seen c =
    let g = c.args in
    let e : c.from_residual.result ≡ Err c.in_err-asks_seen.field-0.0 = search rules in
    let told = c.in_err-asks_seen.ensures g.now_ms in
    record { answered = no e told _; called = refuses (call.Observe g.line.now (Some g.fix) g.now_ms) g.h.now g.crumbs.now _ told }

pub seen-requires : goal.seen-requires
unfolding asks
seen-requires c =
    let g = c.args in
    let asked = (neither _ _ (sym (c.in_ok-asks_seen.ensures 0))).0 in
    (ready _ g.line.now g.h.now g.crumbs.now asked, (both-given _ g.line.now g.h.now g.crumbs.now asked).lined.placed)

pub returns : goal.returns
unfolding observe performs
returns c =
    let g = c.args in
    let b = g.crumbs.now in
    let told = c.in_ok-asks_seen.ensures g.now_ms in
    let u = c.seen in
    record {
      answered = yes told u.ensures.told;
      called =
          takes-rule (call.Observe g.line.now (Some g.fix) g.now_ms) g.h.now u.new.h b u.new.crumbs
          (λ C. seen C (course_in g.line.now (state_of g.h.now b)) g.fix g.now_ms) (sym told) refl u.ensures.follows;
    }
