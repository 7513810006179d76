-- `ride_log::file_questions::asks_records` meets its contract: the records along the chain are asked in its order.
use Rattle.std.proofs.Common.{rules, ◌≢◌}
use Rattle.std.proofs.lemmas.Result.{err_from_is_err_and}
use Rattle.refusal.specs.Refusal.{number}
use Rattle.ride_log.proofs.file_questions.Asking.{asking-next, asking-no, asking-end}
use Rattle.ride_log.proofs.file_questions.asks_records.Goals as goal

pub returns-in_err-asks_record : goal.returns-in_err-asks_record
returns-in_err-asks_record c =
    let p = err_from_is_err_and c.from_residual.result c.from_residual.ensures.1 in
    let ne : number c.in_err-asks_record.field-0.0 ≢ 0 = search rules in
    rw (p.1, p.2) (asking-no c.loop-index.invariant c.in-Some.ensures.steps.0 c.in_err-asks_record.ensures ne)

pub loop-index-preserved : goal.loop-index-preserved
loop-index-preserved c = asking-next c.loop-index.invariant c.in-Some.ensures.steps.0 c.in_ok-asks_record.ensures

pub returns : goal.returns
returns c = asking-end c.loop-index.invariant c.in-None.ensures.steps.0
