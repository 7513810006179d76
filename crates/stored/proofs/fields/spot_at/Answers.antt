-- `stored::fields::spot_at` meets its contract.
use Rattle.stored.specs.Fields.{spot_at}
use Rattle.stored.proofs.fields.spot_at.Goals as goal

pub returns : goal.returns
unfolding spot_at
returns c = simp (c.then_some.ensures, c.flag_at.ensures, c.point_at.ensures)
