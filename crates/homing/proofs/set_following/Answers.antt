-- `homing::set_following` meets its contract.
use Rattle.std.proofs.Common.{rules, ◌≡◌, refl, sym, Err}
use Rattle.calls.specs.Follow.{set_following}
use Rattle.calls.specs.Calls as call
use Rattle.calls.specs.Calls.{asks, asks_place, course_in, performs}
use Rattle.state.specs.State.{state_of}
use Rattle.questions.proofs.Given.{both-given}
use Rattle.answers.proofs.Answering.{no, yes}
use Rattle.homing.proofs.Calling.{refuses, takes-rule}
use Rattle.homing.proofs.set_following.Goals as goal

pub returns-in_err-asks_both : goal.returns-in_err-asks_both
unfolding asks
returns-in_err-asks_both c =
    let g = c.args in
    let e : c.from_residual.result ≡ Err c.in_err-asks_both.field-0.0 = search rules in
    let told = c.in_err-asks_both.ensures in
    record { answered = no e told _; called = refuses (call.SetFollowing g.line.now g.follow g.now_ms) g.h.now g.crumbs.now _ told }

pub set_following-requires : goal.set_following-requires
set_following-requires c =
    let g = c.args in
    let given = both-given _ g.line.now g.h.now g.crumbs.now (sym c.in_ok-asks_both.ensures) in
    (given.fit, given.lined.placed)

pub returns : goal.returns
unfolding asks performs
returns c =
    let g = c.args in
    let b = g.crumbs.now in
    let k = c.set_following in
    let told = c.in_ok-asks_both.ensures in
    record {
      answered = yes told k.ensures.answered;
      called =
          takes-rule (call.SetFollowing g.line.now g.follow g.now_ms) g.h.now k.new.h b k.new.crumbs
          (λ C. set_following g.follow C (course_in g.line.now (state_of g.h.now b)) g.now_ms) (sym told) refl k.ensures.follows;
    }
