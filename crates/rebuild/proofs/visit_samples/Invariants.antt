-- `rebuild::visit_samples` meets its contract.
use Rattle.rebuild.proofs.Visiting.{Going}
use Rattle.rebuild.proofs.visit_samples.Given as goal

abbrev pub invariant-loop-sample : goal.invariant-loop-sample
invariant-loop-sample l =
    Going l.later l.sample-items l.initial.r l.initial.h l.initial.crumbs l.sample-index l.r l.h l.crumbs
