-- `ride_log::file_questions::asks_used` meets its contract: the samples up to the count are asked in their order.
use mathlib.Core.Path.{refl}
use Rattle.std.proofs.Common.{rules, ◌≢◌}
use Rattle.std.proofs.lemmas.Result.{err_from_is_err_and}
use Rattle.refusal.specs.Refusal.{number}
use native.Mathlib.Omega.{arith}
use Rattle.ride_log.proofs.file_questions.Asking.{using-no, using-next, using-end}
use Rattle.ride_log.proofs.file_questions.asks_used.Goals as goal

pub returns-in_err-asks_place : goal.returns-in_err-asks_place
returns-in_err-asks_place c =
    let p = err_from_is_err_and c.from_residual.result c.from_residual.ensures.1 in
    let ne : number c.in_err-asks_place.field-0.0 ≢ 0 = search rules in
    rw (p.1, p.2)
    (using-no c.loop-k.invariant c.requires.0 c.requires.1 (omega arith) c.place_of-place.ensures c.in_err-asks_place.ensures ne)

pub loop-k-preserved : goal.loop-k-preserved
loop-k-preserved c =
    using-next c.loop-k.invariant c.requires.0 c.requires.1 (omega arith) c.place_of-place.ensures c.in_ok-asks_place.ensures refl

pub returns : goal.returns
returns c = using-end c.loop-k.invariant c.requires.0 (omega arith)
