-- `rebuild::settle` meets its contract.
use mathlib.Core.Path.{refl}
use Rattle.rebuild.specs.Rebuild.{settle}
use Rattle.rebuild.proofs.Making.{decides-live}
use Rattle.rebuild.proofs.settle.Goals as goal

pub returns : goal.returns
unfolding settle
returns c =
    let r = c.args.r.now in rw (decides-live r.stage c.args.utc r refl, ← c.starts_anew.ensures) (c.reset_if.ensures _)
