-- `steer::way_home::brought` meets its contract.
use mathlib.Core.Path.{refl, sym, ap}
use lib.ListN.{length}
use Rattle.std.specs.Prelude.{Option}
use Rattle.plane.specs.declared.Point.{Point}
use Rattle.crumbs.specs.Crumb.{capacity}
use Rattle.state.specs.State.{state_of}
use Rattle.calls.specs.Follow.{update_here, brought}
use Rattle.steer.proofs.way_home.Deciding.{follows-as, decides-as, decides-still}
use Rattle.steer.proofs.way_home.brought.Goals as goal

pub returns-in-Some : goal.returns-in-Some
unfolding brought update_here
returns-in-Some c =
    let g = c.args in
    let is = ap (λ (x : Option Point). update_here x (capacity (length g.crumbs.now)) g.course.now g.now_ms (state_of g.h.now g.crumbs.now))
    c.in-Some.is in
    record {
      decides =
          record { answered = sym (ap (λ x. x.answer) is); follows = follows-as c.update.ensures.updates.follows (ap (λ x. x.state) is) };
      window = c.update.ensures.window;
    }

pub returns-in_default : goal.returns-in_default
unfolding brought update_here
returns-in_default c =
    let g = c.args in
    record {
      decides = decides-as (decides-still c.requires.trail)
          (ap (λ (x : Option Point). update_here x (capacity (length g.crumbs.now)) g.course.now g.now_ms (state_of g.h.now g.crumbs.now))
          c.in_default.is);
      window = refl;
    }
