-- `steer::following::set_auto_follow` meets its contract.
use mathlib.Core.Path.{refl}
use Rattle.calls.specs.Follow.{set_auto_follow}
use Rattle.steer.proofs.way_home.Deciding.{follows-as}
use Rattle.steer.proofs.following.set_auto_follow.Goals as goal

pub returns-then-on : goal.returns-then-on
unfolding set_auto_follow
returns-then-on c = rw c.if-on.true (record { same = refl; fit = c.requires.0; size = refl; beyond = refl })

pub returns-else-on : goal.returns-else-on
unfolding set_auto_follow
returns-else-on c = rw c.if-on.false (follows-as c.auto_off.ensures refl)
