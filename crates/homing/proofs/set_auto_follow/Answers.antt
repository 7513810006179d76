-- `homing::set_auto_follow` meets its contract.
use Rattle.std.proofs.Common.{rules, arith, ◌≡◌, refl, sym, Err}
use Rattle.calls.specs.Follow.{set_auto_follow}
use Rattle.calls.specs.Calls as call
use Rattle.calls.specs.Calls.{asks, asks_place, course_in, performs}
use Rattle.questions.proofs.Given.{crumbs-given}
use Rattle.answers.proofs.Answering.{no, yes}
use Rattle.homing.proofs.Calling.{refuses, takes-rule}
use Rattle.homing.proofs.set_auto_follow.Goals as goal

pub returns-in_err-asks_crumbs : goal.returns-in_err-asks_crumbs
unfolding asks
returns-in_err-asks_crumbs c =
    let g = c.args in
    let e : c.from_residual.result ≡ Err c.in_err-asks_crumbs.field-0.0 = search rules in
    let told = c.in_err-asks_crumbs.ensures in
    record { answered = no e told tt; called = refuses (call.SetAutoFollow g.on) g.h.now g.crumbs.now _ told }

pub set_auto_follow-requires : goal.set_auto_follow-requires
set_auto_follow-requires c =
    let given = crumbs-given _ c.args.h.now c.args.crumbs.now (sym c.in_ok-asks_crumbs.ensures) in
    (given.trail, λ e. omega (arith, (given.counted.on_trail e).1))

pub returns : goal.returns
unfolding asks performs
returns c =
    let g = c.args in
    let k = c.set_auto_follow in
    let told = c.in_ok-asks_crumbs.ensures in
    record {
      answered = yes told refl;
      called =
          takes-rule (call.SetAutoFollow g.on) g.h.now k.new.h g.crumbs.now k.new.crumbs (set_auto_follow g.on) (sym told) refl k.ensures;
    }
