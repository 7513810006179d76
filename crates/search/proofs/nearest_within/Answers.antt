-- `search::nearest_within` meets its contract: the ends still to be considered decide.
use mathlib.Core.Path.{ap, ◌∙◌}
use native.Mathlib.Omega.{arith}
use Rattle.segments.specs.Segment.{found}
use Rattle.search.specs.Search.{nearest_within}
use Rattle.search.proofs.Searching.{falls-from, falls-on, falls_out}
use Rattle.search.proofs.nearest_within.Goals as goal

pub loop-end-init : goal.loop-end-init
loop-end-init c = falls-from (omega arith)

pub crumb-a-requires : goal.crumb-a-requires
crumb-a-requires c = omega (arith, c.loop-end.invariant.upto)

pub crumb-b-requires : goal.crumb-b-requires
crumb-b-requires c = omega (arith, c.loop-end.invariant.upto)

pub loop-end-preserved-then-may_cost : goal.loop-end-preserved-then-may_cost
loop-end-preserved-then-may_cost c =
    falls-on c.loop-end.invariant c.requires.0 (omega arith)
    (c.consider-best.ensures _ c.crumb-a.ensures c.crumb-b.ensures)

pub loop-end-preserved : goal.loop-end-preserved
loop-end-preserved c =
    falls-on c.loop-end.invariant c.requires.0 (omega arith)
    (c.may_cost.ensures c.if-may_cost.false _ _ c.loop-end.best c.crumb-a.ensures c.crumb-b.ensures)

pub returns : goal.returns
unfolding nearest_within
returns c = c.found.ensures ∙ ap found (falls_out c.loop-end.invariant (omega arith))
