-- `restart::settle` meets its contract.
use Rattle.std.proofs.Common.{rules, ◌≢◌}
use Rattle.std.proofs.lemmas.Result.{err_from_is_err_and}
use Rattle.refusal.specs.Refusal.{number}
use Rattle.restart.proofs.Calling.{settle-refused, settle-taken}
use Rattle.restart.proofs.settle.Goals as goal

pub returns-in_err-asks_state : goal.returns-in_err-asks_state
returns-in_err-asks_state c =
    let g = c.args in
    let p = err_from_is_err_and c.from_residual.result c.from_residual.ensures.1 in
    let ne : number c.in_err-asks_state.field-0.0 ≢ 0 = search rules in
    rw (p.1, p.2) (settle-refused g.utc g.r.now g.h.now _ c.in_err-asks_state.ensures ne)

pub returns : goal.returns
returns c = let g = c.args in settle-taken g.utc g.r.now g.h.now c.in_ok-asks_state.ensures c.settle.ensures
