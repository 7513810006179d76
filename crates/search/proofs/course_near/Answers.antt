-- `search::course_near` meets its contract: the ends still to be considered decide.
use mathlib.Core.Path.{ap, ◌∙◌}
use native.Mathlib.Omega.{arith}
use Rattle.search.specs.Course.{closer, cost_anywhere, course_near}
use Rattle.segments.specs.Segment.{considered, found}
use Rattle.search.proofs.Searching.{falls-from, falls-on, falls_out}
use Rattle.search.proofs.course_near.Goals as goal

pub loop-end-init : goal.loop-end-init
loop-end-init c = (omega arith, falls-from (omega arith))

pub nearest_on-near-requires : goal.nearest_on-near-requires
nearest_on-near-requires c = omega arith

pub loop-end-preserved : goal.loop-end-preserved
unfolding considered cost_anywhere
loop-end-preserved c = (
  omega arith,
  falls-on c.loop-end.invariant.1 (omega arith) (omega arith)
      (simp (c.cheaper-best.ensures, c.plain.ensures, c.nearest_on-near.ensures)),
)

pub returns : goal.returns
unfolding course_near
returns c =
    c.closer.ensures
    ∙ ap (closer _) (c.found.ensures ∙ ap found (falls_out c.loop-end.invariant.1 (omega arith)))
