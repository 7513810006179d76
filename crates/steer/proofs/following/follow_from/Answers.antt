-- `steer::following::follow_from` meets its contract.
use mathlib.Core.Logic.{inl, inr}
use mathlib.Core.Path.{sym, ap, ◌∙◌}
use lib.ListN.{length}
use Rattle.crumbs.specs.Crumb.{capacity}
use Rattle.std.specs.Prelude.{Option}
use Rattle.segments.specs.declared.costs.Nearest.{Nearest}
use Rattle.state.specs.declared.Line.{Line}
use Rattle.state.specs.State.{state_of}
use Rattle.calls.specs.Follow.{follow, follow_from}
use Rattle.steer.proofs.way_home.Fitting.{near-in}
use Rattle.steer.proofs.way_home.Deciding.{decides-as}
use Rattle.steer.proofs.following.follow_from.Goals as goal

pub follow_best-requires-clause-line_value : goal.follow_best-requires-clause-line_value
follow_best-requires-clause-line_value c = rw c.near_here-best.ensures (near-in c.args.h.now.here c.args.course.now)

pub returns-in-Nothing : goal.returns-in-Nothing
unfolding follow_from
returns-in-Nothing c =
    let g = c.args in
    let s = state_of g.h.now g.crumbs.now in
    decides-as c.follow_best.ensures
    (ap (λ (x : Line). follow_from x (capacity (length g.crumbs.now)) g.course.now g.now_ms s) c.in-Nothing.is
    ∙ sym (ap (λ (b : Option Nearest). follow b (capacity (length g.crumbs.now)) g.course.now g.now_ms s) c.near_here-best.ensures))

pub returns-in-Breadcrumb : goal.returns-in-Breadcrumb
unfolding follow_from
returns-in-Breadcrumb c =
    let g = c.args in
    decides-as c.brought.ensures.decides
    (elim c.in-Breadcrumb.is [
      | inl e ↦ ap (λ (x : Line). follow_from x (capacity (length g.crumbs.now)) g.course.now g.now_ms (state_of g.h.now g.crumbs.now)) e
      | inr e ↦ ap (λ (x : Line). follow_from x (capacity (length g.crumbs.now)) g.course.now g.now_ms (state_of g.h.now g.crumbs.now)) e
    ])
