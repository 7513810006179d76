-- `steer::following::set_following` meets its contract.
use mathlib.Core.Path.{refl, sym, ap, ◌∙◌, subst}
use Prim.Native.Nat.{ℕ}
use mathlib.Core.List.{List}
use lib.ListN.{length}
use Rattle.crumbs.specs.declared.Crumb.{Crumb}
use Rattle.crumbs.proofs.Crumbs.{length-crumbs}
use Rattle.follow.specs.View.{HomingFit}
use Rattle.calls.specs.Follow.{set_following}
use Rattle.steer.proofs.way_home.Fitting.{stopped-fits}
use Rattle.steer.proofs.way_home.Deciding.{decides-as, ends}
use Rattle.steer.proofs.following.set_following.Goals as goal

pub follow_from-requires : goal.follow_from-requires
follow_from-requires c =
    let g = c.args in
    subst (λ (n : ℕ). HomingFit g.h.now (length g.crumbs.now) n)
    (sym (ap (λ (l : List Crumb). length l) c.new-course.ensures ∙ length-crumbs g.h.now.course.line_len g.line.now)) c.requires.0

pub returns-then-follow : goal.returns-then-follow
unfolding set_following
returns-then-follow c = rw (c.if-follow.true, ← c.new-course.ensures) (decides-as c.follow_from.ensures refl)

pub brought-requires : goal.brought-requires
brought-requires c = stopped-fits c.stop_following.ensures.follows

pub returns : goal.returns
returns c =
    rw (c.if-follow.false, ← c.new-course.ensures)
    (ends c.new-course.result c.args.now_ms c.stop_following.ensures.follows c.brought.ensures.decides)
