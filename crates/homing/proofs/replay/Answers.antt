-- `homing::replay` meets its contract.
use Rattle.std.proofs.Common.{rules, ◌≡◌, refl, sym, Err}
use Rattle.calls.specs.Fix.{replay}
use Rattle.calls.specs.Calls as call
use Rattle.calls.specs.Calls.{asks, asks_place, course_in, performs}
use Rattle.questions.proofs.Given.{crumbs-given, neither}
use Rattle.answers.proofs.Answering.{no, yes}
use Rattle.homing.proofs.Calling.{refuses, takes-rule}
use Rattle.homing.proofs.replay.Goals as goal

pub returns-in_err-asks_replay : goal.returns-in_err-asks_replay
returns-in_err-asks_replay c =
    let g = c.args in
    let e : c.from_residual.result ≡ Err c.in_err-asks_replay.field-0.0 = search rules in
    let told = c.in_err-asks_replay.ensures g.at_ms in
    record { answered = no e told tt; called = refuses (call.Replay g.fix g.at_ms) g.h.now g.crumbs.now _ told }

pub replay-requires : goal.replay-requires
unfolding asks
replay-requires c =
    (crumbs-given _ c.args.h.now c.args.crumbs.now (neither _ _ (sym (c.in_ok-asks_replay.ensures 0))).0).trail

pub returns : goal.returns
unfolding performs
returns c =
    let g = c.args in
    let told = c.in_ok-asks_replay.ensures g.at_ms in
    record {
      answered = yes told refl;
      called =
          takes-rule (call.Replay g.fix g.at_ms) g.h.now c.replay.new.h g.crumbs.now c.replay.new.crumbs (λ C. replay C g.fix g.at_ms)
          (sym told) refl c.replay.ensures;
    }
