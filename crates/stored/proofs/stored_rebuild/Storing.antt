-- Words in which a rebuild is stored hold that rebuild. Assumes nothing.
use mathlib.Core.Path.{ap, ◌∙◌}
use lib.ListN.{drop}
use Rattle.stored.specs.Rebuilt.{rebuild_count, stored_rebuild, RebuildHoldsStored}
use Rattle.stored.proofs.stored_rebuild.RebuildBack.{rebuild-read-back}

pub rebuild-holds-stored : RebuildHoldsStored
rebuild-holds-stored r w w' s = ap stored_rebuild s.words ∙ rebuild-read-back r s.fits (drop rebuild_count w)
