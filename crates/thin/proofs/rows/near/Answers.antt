-- `thin::rows::near` meets its contract.
use mathlib.Core.Path.{refl, ap}
use lib.Ieee.{Float, le}
use Rattle.thin.proofs.Testing.{squared}
use Rattle.thin.proofs.rows.near.Goals as goal

pub returns : goal.returns
returns c = ap (λ (s : Float). le s c.args.lo)
    (squared c.off_square.ensures c.point_at.ensures refl refl)
