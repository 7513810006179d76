-- `rebuild::reset_if` meets its contract.
use Rattle.rebuild.proofs.Making.{carried_on, begun-anew}
use Rattle.rebuild.proofs.reset_if.Goals as goal

pub returns-then-anew : goal.returns-then-anew
returns-then-anew c = begun-anew _ c.if-anew.true c.reset.ensures

pub returns-else-anew : goal.returns-else-anew
returns-else-anew c = carried_on _ c.if-anew.false
