-- `retelling::rebuild_chain` meets its contract.
use mathlib.Core.Path.{◌∙◌, ap}
use native.Mathlib.Omega.{arith}
use Rattle.std.proofs.lemmas.Result.{err_from_is_err_and}
use Rattle.rebuild.specs.Rebuild.{new_rebuild}
use Rattle.retelling.proofs.Retelling.{rebuilds-chain, rebuilds-no-chain}
use Rattle.retelling.proofs.rebuild_chain.Goals as goal

pub returns-in_err-step : goal.returns-in_err-step
returns-in_err-step c =
    let p = err_from_is_err_and c.from_residual.result c.from_residual.ensures.1 in
    rw (p.1, p.2)
    (rebuilds-no-chain _ (omega arith) (c.new.ensures.fresh _)
    (c.new-rebuild.ensures ∙ ap new_rebuild c.recovered.ensures) c.in_err-step.ensures)

pub returns : goal.returns
returns c =
    rebuilds-chain _ (omega arith) (c.new.ensures.fresh _)
    (c.new-rebuild.ensures ∙ ap new_rebuild c.recovered.ensures) c.in_ok-step.ensures
