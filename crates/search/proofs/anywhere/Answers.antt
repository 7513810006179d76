-- `search::anywhere` meets its contract: the two constants are those of the rule.
use mathlib.Core.Path.{refl}
use lib.Ieee.{of_bits}
use Rattle.search.specs.Search.{lowest, largest}
use Rattle.search.proofs.anywhere.Goals as goal

pub returns : goal.returns
unfolding lowest largest of_bits
returns c = refl
