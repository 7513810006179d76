-- `search::nearest_on_breadcrumb` meets its contract: the ends still to be considered decide.
use Rattle.segments.specs.declared.costs.Ranking.TheVariants.{Plain}
use Rattle.segments.specs.Segment.{considered, cost_within}
use Rattle.search.proofs.Searching.{Rises}
use Rattle.search.proofs.nearest_on_breadcrumb.Given as goal

abbrev pub invariant-loop-end : goal.invariant-loop-end
invariant-loop-end l =
    Rises (considered l.line l.p (cost_within l.line l.p l.within Plain)) l.fn.ends l.best l.end
