-- `steer::following::follow_best` meets its contract.
use mathlib.Core.Path.{subst}
use lib.ListN.{length}
use Rattle.std.specs.Prelude.{Option}
use Rattle.segments.specs.declared.costs.Nearest.{Nearest}
use Rattle.segments.specs.Inner.{InLine}
use Rattle.calls.specs.Follow.{follow}
use Rattle.steer.proofs.way_home.Fitting.{engaged-fits}
use Rattle.steer.proofs.way_home.Deciding.{decides-from}
use Rattle.steer.proofs.following.follow_best.Goals as goal

pub returns-in_default : goal.returns-in_default
unfolding follow
returns-in_default c = rw c.in_default.is c.way_home.ensures.decides

pub brought-requires : goal.brought-requires
brought-requires c =
    let g = c.args in
    engaged-fits g.course.now c.in-Some.near.end g.now_ms c.engage_at.ensures c.requires.homing_fit
    (subst (λ (b : Option Nearest). InLine (length g.course.now) b) c.in-Some.is c.requires.line_value)

pub returns : goal.returns
unfolding follow
returns c = rw c.in-Some.is (decides-from c.engage_at.ensures c.brought.ensures.decides)
