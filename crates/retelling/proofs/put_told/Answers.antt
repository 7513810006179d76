-- `retelling::put_told` meets its contract.
use Rattle.retelling.proofs.Retelling.{tells-rebuilt, tells-refused}
use Rattle.retelling.proofs.put_told.Goals as goal

pub returns-in-Ok : goal.returns-in-Ok
returns-in-Ok c = tells-rebuilt _ c.in-Ok.is c.is_decided-decided.ensures c.put_rebuilt.ensures

pub returns-in-Err : goal.returns-in-Err
returns-in-Err c = tells-refused _ c.in-Err.is c.number.ensures c.put_refused.ensures
