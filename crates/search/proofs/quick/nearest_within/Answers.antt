-- `search::quick::nearest_within` meets its contract.
use mathlib.Core.Path.{◌∙◌}
use Rattle.search.proofs.quick.nearest_within.Goals as goal

pub returns-in-Plain : goal.returns-in-Plain
returns-in-Plain c = c.plainly_within.ensures ∙ simp c.in-Plain.is
