-- Following ends, and the guide is made anew without it. Assumes nothing.
use mathlib.Core.Path.{◌≡◌, refl, sym, ap, ◌∙◌, subst}
use Prim.Native.Nat.{ℕ, max}
use mathlib.Core.List.{List}
use lib.ListN.{length}
use lib.Ieee.{Float}
use Rattle.plane.specs.declared.Point.{Point}
use Rattle.crumbs.specs.declared.Crumb.{Crumb}
use Rattle.crumbs.specs.Crumb.{behind}
use Rattle.trail.specs.declared.Trail.{Trail}
use Rattle.trail.specs.View as trail
use Rattle.state.specs.declared.Event.{Event}
use Rattle.state.specs.declared.Homing.{Homing}
use Rattle.state.specs.State.{State}
use Rattle.follow.specs.Engage.{stop}
use Rattle.follow.specs.View.{Changes, Follows}
use Rattle.guide.specs.Guide.{direct}
use Rattle.guide.specs.View.{Tells}
use Rattle.update.specs.Update.{begun, ended_with}
use Rattle.update.specs.View.{Updates}

-- stopped, begun anew, and shown
module _ {h st n r : Homing} {entry exit : List Float} (course : List Crumb) (p : Point) (now : ℕ)
    (stops : Follows stop h entry st exit) (begins : Changes (begun p now) st n) {told : Event}
    (t : Tells (direct course p) n exit r told) where
  kept : r.trail ≡ st.trail
  kept = t.trail ∙ begins.trail

  pub ends_with : (e : Event) → Updates (λ C. ended_with e C course p now) h entry r e exit
  unfolding ended_with
  ends_with e =
      let Beyond : Trail → Type 0 = λ x. behind (max h.trail.len x.len) exit ≡ behind (max h.trail.len x.len) entry in
      record {
        told = refl;
        follows =
            record {
              same =
                  t.same
                  ∙ ap (λ (s : State). (direct course p s).state) (begins.same exit)
                  ∙ ap (λ (s : State). (direct course p (begun p now s)).state) stops.same;
              fit = subst (λ (x : Trail). trail.TrailFit x (length exit)) (sym kept) stops.fit;
              size = stops.size;
              beyond = subst Beyond (sym kept) stops.beyond;
            };
      }
