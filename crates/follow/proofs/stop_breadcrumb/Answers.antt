-- `follow::stop_breadcrumb` meets its contract.
use mathlib.Core.Path.{refl, ap}
use Rattle.trail.specs.View.{track, places}
use Rattle.state.specs.declared.Follow.{Follow}
use Rattle.state.specs.State.{state_of, with_track, with_follow}
use Rattle.follow.specs.Engage.{forgotten}
use Rattle.follow.proofs.Recording.{stops_at}
use Rattle.follow.proofs.stop_breadcrumb.Goals as goal

pub returns : goal.returns
unfolding forgotten track places
returns c = let g = c.args in
    let h = g.h.now in
    let k = c.leave_at in
    record {
      follows = stops_at h _ k.new.h g.crumbs.now k.new.crumbs (ap (λ (x : Follow). with_follow x
          (with_track (forgotten (track h.trail h.window g.crumbs.now)) (state_of h g.crumbs.now)))
          c.stopped-h.ensures) refl k.ensures.follows;
      window = k.ensures.window;
    }
