-- `stored::parts::blank` meets its contract.
use mathlib.Core.Path.{refl}
use Rattle.stored.specs.Fields.{heading_at}
use Rattle.stored.specs.Parts.{guide_read}
use Rattle.stored.proofs.parts.blank.Goals as goal

pub returns : goal.returns
unfolding guide_read heading_at
returns c = refl
