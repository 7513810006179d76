-- `follow::leave_at` meets its contract.
use mathlib.Core.Path.{refl, sym, subst}
use Rattle.std.specs.Prelude.{Option}
use Rattle.plane.specs.declared.Point.{Point}
use Rattle.trail.specs.View.{track}
use Rattle.follow.specs.Engage.{leave_at}
use Rattle.follow.specs.View.{Follows}
use Rattle.follow.proofs.Recording.{left_at, cut-state, left-nowhere}
use Rattle.follow.proofs.leave_at.Goals as goal

pub returns-in_default : goal.returns-in_default
returns-in_default c =
    record {
      follows = left-nowhere c.args.h.now c.args.matched c.args.segment c.args.crumbs.now c.in_default.is c.requires.0;
      window = refl;
    }

pub returns-in-Some : goal.returns-in-Some
unfolding track
returns-in-Some c = let g = c.args in let h = g.h.now in let k = c.keep.new in
    record {
      follows = subst (λ (x : Option Point). Follows (λ C. leave_at C x g.segment) h g.crumbs.now k.h k.crumbs)
          (sym c.in-Some.is)
          (left_at h _ k.h c.in-Some.p g.segment g.crumbs.now k.crumbs
          (cut-state h g.segment g.crumbs.now c.requires.1) c.requires.1 c.keep.ensures.follows);
      window = c.keep.ensures.window;
    }
