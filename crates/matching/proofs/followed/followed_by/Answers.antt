-- `matching::followed::followed_by` meets its contract.
use mathlib.Core.Path.{refl}
use Rattle.matching.proofs.followed.followed_by.Goals as goal

pub returns : goal.returns
returns c = record { on = refl; line = c.followed_on.ensures; segment = refl; off = refl; was = refl }
