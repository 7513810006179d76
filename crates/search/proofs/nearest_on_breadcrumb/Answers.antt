-- `search::nearest_on_breadcrumb` meets its contract: the ends still to be considered decide.
use mathlib.Core.Path.{ap, ◌∙◌}
use native.Mathlib.Omega.{arith}
use Rattle.segments.specs.Segment.{found}
use Rattle.search.proofs.Searching.{rises-start, rises-on, rises-out, breadcrumb-is}
use Rattle.search.proofs.nearest_on_breadcrumb.Goals as goal
use Rattle.search.proofs.nearest_on_breadcrumb.Goals.{else-loop-end-test, then-loop-end-test+else-end-end-end}

pub loop-end-init : goal.loop-end-init
loop-end-init c = rises-start

pub crumb-a-requires : goal.crumb-a-requires
crumb-a-requires c = omega (arith, c.loop-end.invariant.from)

pub crumb-b-requires : goal.crumb-b-requires
crumb-b-requires c = omega (arith, c.loop-end.invariant.from)

pub loop-end-preserved : goal.loop-end-preserved
loop-end-preserved c =
    rises-on c.loop-end.invariant (omega arith)
    (c.consider-best.ensures _ c.crumb-a.ensures c.crumb-b.ensures)

pub returns : goal.returns
returns c =
    let v = c.loop-end.invariant in
    breadcrumb-is _ _ _ (c.found.ensures ∙ ap found (elim c.loop-end-test.branch [
      | else-loop-end-test w ↦ w.best-is ∙ rises-out v (omega arith)
      | then-loop-end-test+else-end-end-end w ↦
          w.best-is
          ∙ rises-out (rises-on v (omega arith) (w.consider-best.ensures _ w.crumb-a.ensures w.crumb-b.ensures)) (omega arith)
    ]))
    c.anywhere-within.ensures
