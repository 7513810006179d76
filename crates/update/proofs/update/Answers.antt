-- `update::update` meets its contract.
use mathlib.Core.Path.{sym, subst, ◌∙◌}
use Prim.Native.Nat.{◌≤◌}
use lib.ListN.{length}
use Rattle.crumbs.specs.Crumb.{capacity}
use Rattle.trail.specs.declared.Trail.{Trail}
use Rattle.trail.specs.View.{track}
use Rattle.guide.proofs.Showing.{tells-held}
use Rattle.update.proofs.Updating.{fit-begun, followed-here, last-here, match-on, line-on, goes-straight, stays, ends, goes_on}
use Rattle.update.proofs.update.Goals as goal

pub new-held-requires : goal.new-held-requires
new-held-requires c =
    subst (λ (t : Trail). t.len ≤ capacity (length c.args.crumbs.now)) (sym c.begun.ensures.trail) c.requires.trail.held

pub outcome_at-requires : goal.outcome_at-requires
outcome_at-requires c =
    let g = c.args in
    let n = c.begun.new.h in
    last-here n g.crumbs.now c.new-held.ensures (fit-begun g.p g.now_ms g.h.now n c.begun.ensures c.requires) c.followed_by-f.ensures

pub ended_with-requires : goal.ended_with-requires
ended_with-requires c =
    let g = c.args in
    fit-begun g.p g.now_ms g.h.now c.begun.new.h c.begun.ensures c.requires

pub matched_at-requires : goal.matched_at-requires
matched_at-requires c =
    let g = c.args in
    let i = followed-here c.begun.new.h g.crumbs.now c.new-held.ensures c.followed_by-f.ensures in
    match-on g.crumbs.now g.p g.now_ms c.begun.ensures i c.outcome_at.ensures c.in-GoesOn.is

pub returns-in-Straight : goal.returns-in-Straight
unfolding track
returns-in-Straight c =
    let g = c.args in
    let i = followed-here c.begun.new.h g.crumbs.now c.new-held.ensures c.followed_by-f.ensures in
    let shown = tells-held c.new-held.ensures (c.direct.ensures g.crumbs.now) in
    record {
      updates = goes-straight g.crumbs.now g.p g.now_ms c.begun.ensures i c.outcome_at.ensures c.requires.trail c.in-Straight.is shown;
      window = shown.window ∙ c.begun.ensures.window;
    }

pub returns-in-Stays : goal.returns-in-Stays
returns-in-Stays c =
    let g = c.args in
    let i = followed-here c.begun.new.h g.crumbs.now c.new-held.ensures c.followed_by-f.ensures in
    record {
      updates = stays g.crumbs.now g.p g.now_ms c.begun.ensures i c.outcome_at.ensures c.requires.trail c.in-Stays.is;
      window = c.begun.ensures.window;
    }

pub returns-in-Ends : goal.returns-in-Ends
returns-in-Ends c =
    let g = c.args in
    let i = followed-here c.begun.new.h g.crumbs.now c.new-held.ensures c.followed_by-f.ensures in
    record {
      updates = ends g.crumbs.now g.p g.now_ms c.begun.ensures i c.outcome_at.ensures c.in-Ends.is c.ended_with.ensures.updates;
      window = c.ended_with.ensures.window ∙ c.begun.ensures.window;
    }

pub returns-in-GoesOn : goal.returns-in-GoesOn
unfolding track
returns-in-GoesOn c =
    let g = c.args in
    let i = followed-here c.begun.new.h g.crumbs.now c.new-held.ensures c.followed_by-f.ensures in
    let shown = c.matched_at.ensures g.crumbs.now c.new-held.ensures
    (line-on g.crumbs.now g.p g.now_ms c.begun.ensures i c.outcome_at.ensures) in
    record {
      updates = goes_on g.crumbs.now g.p g.now_ms c.begun.ensures i c.outcome_at.ensures c.requires.trail c.in-GoesOn.is shown;
      window = shown.window ∙ c.begun.ensures.window;
    }
