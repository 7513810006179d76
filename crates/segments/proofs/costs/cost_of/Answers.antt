-- `segments::costs::cost_of` meets its contract: each ranking has its own cost.
use Rattle.segments.specs.Cost.{cost_of}
use Rattle.segments.proofs.costs.cost_of.Goals as goal

pub returns-in-Plain : goal.returns-in-Plain
unfolding cost_of
returns-in-Plain c = simp (c.in-Plain.is, c.plain.ensures)

pub returns-in-On : goal.returns-in-On
unfolding cost_of
returns-in-On c = simp (c.in-On.is, c.on.ensures)

pub returns-in-Ahead : goal.returns-in-Ahead
unfolding cost_of
returns-in-Ahead c = simp (c.in-Ahead.is, c.ahead.ensures)
