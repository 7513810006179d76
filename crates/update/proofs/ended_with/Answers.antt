-- `update::ended_with` meets its contract.
use mathlib.Core.Path.{sym, subst, ◌∙◌}
use native.Mathlib.Omega.{arith}
use Prim.Native.Nat.{◌≤◌}
use lib.ListN.{length}
use Rattle.trail.specs.declared.Trail.{Trail}
use Rattle.trail.specs.View.{track}
use Rattle.crumbs.specs.Crumb.{capacity}
use Rattle.guide.proofs.Showing.{tells-held}
use Rattle.update.proofs.Ending.{ends_with}
use Rattle.update.proofs.ended_with.Goals as goal

pub stop_following-requires : goal.stop_following-requires
stop_following-requires c = let f = c.requires in (f.trail, λ e. omega (arith, (f.on_trail e).1))

pub new-requires : goal.new-requires
new-requires c =
    let k = c.stop_following in
    subst (λ (t : Trail). t.len ≤ capacity (length k.new.crumbs)) (sym c.begun.ensures.trail) k.ensures.follows.fit.held

pub returns : goal.returns
unfolding track
returns c = let g = c.args in let k = c.stop_following in
    let shown = tells-held c.new.ensures (c.direct.ensures k.new.crumbs) in
    record {
      updates = ends_with g.course.now g.p g.now_ms k.ensures.follows c.begun.ensures shown g.e;
      window = shown.window ∙ c.begun.ensures.window ∙ k.ensures.window;
    }
