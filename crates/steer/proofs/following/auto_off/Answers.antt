-- `steer::following::auto_off` meets its contract.
use mathlib.Core.Path.{refl}
use Rattle.state.specs.Rule.{done}
use Rattle.follow.specs.Engage.{stop}
use Rattle.follow.specs.View.{Follows}
use Rattle.calls.specs.Follow.{auto_off}
use Rattle.steer.proofs.way_home.Deciding.{turned-off}
use Rattle.steer.proofs.following.auto_off.Goals.{then-h, else-h}
use Rattle.steer.proofs.following.auto_off.Goals as goal

pub returns : goal.returns
unfolding auto_off
returns c =
    let h = c.args.h.now in
    let entry = c.args.crumbs.now in
    let m = c.if-h.h in
    let exit = c.if-h.crumbs in
    elim c.if-h.branch [
      | then-h w ↦
          let stopped : Follows stop h entry m exit = rw (w.h-is, w.crumbs-is) w.stop_following.ensures.follows in
          turned-off _ stopped (record { same = λ b. refl; trail = refl; window = refl }) w.if-h.true (λ C s. refl)
      | else-h w ↦
          let still : Follows (λ C s. done (tt {0}) s) h entry m exit =
          rw (w.h-is, w.crumbs-is) (record { same = refl; fit = c.requires.0; size = refl; beyond = refl }) in
          turned-off _ still (record { same = λ b. refl; trail = refl; window = refl }) w.if-h.false (λ C s. refl)
    ]
