-- `homing::reset` meets its contract.
use Rattle.std.proofs.Common.{rules, ◌≡◌, refl, sym, Err}
use Rattle.calls.specs.Calls as call
use Rattle.calls.specs.Calls.{asks, asks_place, course_in, performs}
use Rattle.answers.proofs.Answering.{no, yes}
use Rattle.homing.proofs.Calling.{refuses, takes}
use Rattle.homing.proofs.reset.Goals as goal

pub returns-in_err-asks_state : goal.returns-in_err-asks_state
unfolding asks
returns-in_err-asks_state c =
    let e : c.from_residual.result ≡ Err c.in_err-asks_state.field-0.0 = search rules in
    record {
      answered = λ b. no e (c.in_err-asks_state.ensures b) tt;
      called = λ b. refuses call.Reset c.args.h.now b _ (c.in_err-asks_state.ensures b);
    }

pub returns : goal.returns
unfolding asks performs
returns c = record {
  answered = λ b. yes (c.in_ok-asks_state.ensures b) refl;
  called = λ b. takes call.Reset c.args.h.now c.reset.new.h b b (sym (c.in_ok-asks_state.ensures b)) (c.reset.ensures.same b) refl refl;
}
