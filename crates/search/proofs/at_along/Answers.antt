-- `search::at_along` meets its contract: going down from `end - 1` finds the rule's place.
use mathlib.Core.Path.{refl, ◌∙◌}
use native.Mathlib.Omega.{arith}
use Rattle.search.proofs.Walking.{along-there, place-below, place_here, place-first}
use Rattle.search.proofs.at_along.Goals as goal
use Rattle.search.proofs.at_along.Goals.{then-loop-i-test+else-crumb-along, else-loop-i-test}

pub overflow_sub-i : goal.overflow_sub-i
overflow_sub-i c = omega arith

pub loop-i-init : goal.loop-i-init
loop-i-init c = (omega arith, refl)

pub crumb-requires : goal.crumb-requires
crumb-requires c = omega arith

pub overflow_sub-i-in-loop-i : goal.overflow_sub-i-in-loop-i
overflow_sub-i-in-loop-i c = omega arith

pub loop-i-smaller : goal.loop-i-smaller
loop-i-smaller c = omega arith

pub loop-i-preserved : goal.loop-i-preserved
loop-i-preserved c = (
  omega arith,
  place-below _ _ _ c.crumb.ensures (omega arith) c.if-crumb-along.true ∙ c.loop-i.invariant.1,
)

pub crumb-requires-2 : goal.crumb-requires-2
crumb-requires-2 c = omega arith

pub overflow_add-i : goal.overflow_add-i
overflow_add-i c = omega arith

pub crumb-requires-3 : goal.crumb-requires-3
crumb-requires-3 c = omega arith

pub returns : goal.returns
returns c =
    along-there _ _ _
    (elim c.loop-i-test.branch [
      | then-loop-i-test+else-crumb-along w ↦ place_here _ _ _ w.crumb.ensures w.if-crumb-along.false
      | else-loop-i-test w ↦ place-first _ _ _ (omega arith)
    ])
    c.loop-i.invariant.1 c.crumb-2.ensures c.crumb-3.ensures c.point_along.ensures
