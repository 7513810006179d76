-- `matching::nearer` meets its contract: the test is the rule's.
use Rattle.std.proofs.Common.{rules}
use Rattle.matching.specs.Match.{nearer}
use Rattle.matching.proofs.nearer.Goals as goal

pub returns : goal.returns
unfolding nearer
returns c = search rules
