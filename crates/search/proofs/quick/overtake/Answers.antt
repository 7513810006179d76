-- `search::quick::overtake` meets its contract.
use Rattle.search.proofs.quick.Leading.{overtakes-first, overtakes-less, overtakes-not}
use Rattle.search.proofs.quick.overtake.Goals as goal

pub returns-then-lead-eq0 : goal.returns-then-lead-eq0
returns-then-lead-eq0 c = overtakes-first _ _ _ c.if-lead-eq0.true

pub returns-then-square-lead : goal.returns-then-square-lead
returns-then-square-lead c = overtakes-less _ _ _ c.if-lead-eq0.false c.if-square-lead.true

pub returns : goal.returns
returns c = overtakes-not _ _ _ c.if-lead-eq0.false c.if-square-lead.false
