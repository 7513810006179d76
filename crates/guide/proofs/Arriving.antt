-- Arriving at the start and leaving it. Assumes nothing.
use mathlib.Core.Path.{◌≡◌, refl, sym, ap, ◌∙◌}
use mathlib.Core.Bool.{Bool, true, false, ◌&&◌, not}
use mathlib.Core.List.{List}
use lib.Ieee.{Float, lt}
use Rattle.crumbs.specs.declared.Crumb.{Crumb}
use Rattle.state.specs.declared.Event.{Event}
use Rattle.state.specs.declared.Event.TheVariants as event
use Rattle.state.specs.declared.Homing.{Homing}
use Rattle.state.specs.State.{State, state_of, with_follow, with_arrived}
use Rattle.state.specs.Rule.{Done, done}
use Rattle.guide.specs.Guide.{arrive_m, leave_m, off_cleared, arrival_from}
use Rattle.guide.specs.View.{holding, TellsOf}
use Rattle.matching.proofs.Choosing.{picked, passed-by}

-- what a rule does, put in its place
pub tells : (rule : State → Done Event) (l : List Crumb) (h : Homing) (b : List Float) (r : Homing) (e : Event)
    → rule (holding l (state_of h b)) ≡ done e (holding l (state_of r b)) → r.trail ≡ h.trail → r.window ≡ h.window
    → TellsOf rule l h b r e
tells rule l h b r e is trail window =
    record {
      told = sym (ap (λ (x : Done Event). x.answer) is);
      same = sym (ap (λ (x : Done Event). x.state) is);
      trail = trail;
      window = window;
    }

-- the rule of a state in which the rider has arrived, or not
module _ (long : Bool) (direct : Float) (e : Event) (s : State) where
  abbrev turns : Bool → Done Event
  turns was = arrival_from was long direct e (with_arrived was s)

  there-by : (b : Bool) → elim b [ true ↦ done e (with_arrived false s) | false ↦ done e (with_arrived true s) ]
      ≡ done e (with_arrived (not b) s)
  there-by true = refl
  there-by false = refl

  pub left-or-there : s.arrived ≡ true → arrival_from s.arrived long direct e s ≡ done e (with_arrived (not (lt leave_m direct)) s)
  unfolding arrival_from
  left-or-there was = ap turns was ∙ there-by (lt leave_m direct)

  abbrev there : Done Event
  there = done event.Arrived (with_arrived true (with_follow (off_cleared s.follow) s))

  pub arrived-now : s.arrived ≡ false → long ≡ true → lt direct arrive_m ≡ true → arrival_from s.arrived long direct e s ≡ there
  unfolding arrival_from
  arrived-now was l t =
      let both : (long && lt direct arrive_m) ≡ true = ap (λ (x : Bool). x && lt direct arrive_m) l ∙ t in
      ap turns was ∙ picked there (done e (with_arrived false s)) (long && lt direct arrive_m) both

  pub away : s.arrived ≡ false → (long && lt direct arrive_m) ≡ false → arrival_from s.arrived long direct e s ≡ done e s
  unfolding arrival_from
  away was t =
      ap turns was ∙ passed-by there (done e (with_arrived false s)) (long && lt direct arrive_m) t
      ∙ ap (λ (x : Bool). done e (with_arrived x s)) (sym was)
