-- `thin::rows::far` meets its contract.
use mathlib.Core.Path.{ap}
use lib.Ieee.{le}
use Rattle.thin.proofs.Testing.{squared}
use Rattle.thin.proofs.rows.far.Goals as goal

pub returns : goal.returns
returns c =
    ap (le c.args.hi)
    (squared c.off_square.ensures c.point_at-p.ensures c.point_at-a.ensures
    c.point_at-b.ensures)
