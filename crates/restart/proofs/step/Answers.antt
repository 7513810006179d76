-- `restart::step` meets its contract.
use Rattle.std.proofs.Common.{rules, ◌≢◌, refl, sym}
use Rattle.std.proofs.lemmas.Result.{err_from_is_err_and}
use lib.ListN.{length}
use Rattle.refusal.specs.Refusal.{number}
use Rattle.questions.proofs.Given.{crumbs-given}
use Rattle.restart.proofs.Calling.{step-refused, step-crumbs, step-file, step-taken}
use Rattle.restart.proofs.step.Goals as goal

pub returns-in_err-asks_step : goal.returns-in_err-asks_step
returns-in_err-asks_step c =
    let g = c.args in
    let p = err_from_is_err_and c.from_residual.result c.from_residual.ensures.1 in
    let ne : number c.in_err-asks_step.field-0.0 ≢ 0 = search rules in
    rw (p.1, p.2) (step-refused g.budget g.upper g.file.now g.r.now g.h.now g.crumbs.now _ c.in_err-asks_step.ensures ne)

pub walk_slots-requires : goal.walk_slots-requires
walk_slots-requires c =
    let g = c.args in
    let h = g.h.now in
    let b = g.crumbs.now in
    let asked = c.in_ok-asks_step.ensures in
    record {
      trail_fit = (crumbs-given (length b) h b (step-crumbs g.file.now h b asked refl)).trail;
      file_value = step-file g.file.now h b asked refl;
    }

pub returns : goal.returns
returns c =
    let g = c.args in
    step-taken g.budget g.upper g.file.now g.r.now g.h.now g.crumbs.now (sym c.in_ok-asks_step.ensures) c.walk_slots.ensures
    c.finished.ensures
