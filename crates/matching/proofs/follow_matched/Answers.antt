-- `matching::follow_matched` meets its contract.
use Rattle.matching.specs.Match.{follow_matched}
use Rattle.matching.proofs.follow_matched.Goals as goal

pub returns : goal.returns
unfolding follow_matched
returns c = simp (← c.reminded_at-reminded_ms.ensures)
