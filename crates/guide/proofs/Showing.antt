-- The guide shown, in the whole state. Assumes nothing.
use mathlib.Core.Path.{◌≡◌, sym, ap, ◌∙◌}
use mathlib.Core.Bool.{Bool}
use mathlib.Core.List.{List}
use lib.Ieee.{Float}
use Rattle.binary32.specs.Limits.{plus_zero}
use Rattle.plane.specs.declared.Point.{Point}
use Rattle.plane.specs.Plane.{distance}
use Rattle.crumbs.specs.declared.Crumb.{Crumb}
use Rattle.crumbs.specs.Crumb.{crumbs}
use Rattle.crumbs.specs.Along.{recorded_m, start_of}
use Rattle.trail.specs.declared.Trail.{Trail}
use Rattle.trail.specs.View.{track}
use Rattle.state.specs.declared.Event.{Event}
use Rattle.state.specs.declared.Event.TheVariants as event
use Rattle.state.specs.declared.Guide.{Guide}
use Rattle.state.specs.declared.Homing.{Homing}
use Rattle.state.specs.declared.Mode.TheVariants as mode
use Rattle.std.specs.Prelude.{Some}
use Rattle.state.specs.State.{State, state_of, with_guide}
use Rattle.state.specs.Rule.{Done, done}
use Rattle.matching.specs.declared.followed.Way.{Way}
use Rattle.matching.specs.Match.{on_course}
use Rattle.guide.specs.Goal.{goal_on, long_enough}
use Rattle.guide.specs.Guide.{arrival_from, guide_at, finished, direct}
use Rattle.guide.specs.View.{holding, TellsOf, Tells}

module _ (h : Homing) (b : List Float) (held : List Crumb) (course : List Crumb) (p : Point) where
  -- the state that shows it, with the crumbs lent
  abbrev here : State
  here = holding held (state_of h b)

  module _ (w : Way) (e : Event) where
    -- the guide by its goal, how far that is, and who has arrived
    abbrev shown_by : Point → Float → Done Event → Done Event
    shown_by goal far a = done a.answer (with_guide (Some (guide_at course p goal far w a.state)) a.state)

    abbrev by : Point → Float → Bool → Done Event
    by goal far long = shown_by goal far (arrival_from h.arrived long far e here)

    shows : {start goal : Point} {far : Float} {on long : Bool} → start ≡ start_of held p → goal ≡ goal_on h.follow.line course start
        → far ≡ distance p goal → on ≡ on_course h.follow.line → long ≡ long_enough on held
        → finished course p w e here ≡ by goal far long
    unfolding finished
    shows {start} {goal} {far} {on} {long} es eg ed eo el =
        let there : goal ≡ goal_on h.follow.line course (start_of held p) =
        eg ∙ ap (λ (q : Point). goal_on h.follow.line course q) es in
        let enough : long ≡ long_enough (on_course h.follow.line) held = el ∙ ap (λ (y : Bool). long_enough y held) eo in
        sym (ap (λ (q : Point). by q (distance p q) (long_enough (on_course h.follow.line) held)) there)
        ∙ sym (ap (λ (d : Float). by goal d (long_enough (on_course h.follow.line) held)) ed)
        ∙ sym (ap (λ (y : Bool). by goal far y) enough)

    pub tells-shown : {start goal : Point} {far : Float} {on long : Bool} {m r : Homing} {told : Event} {g : Guide}
        → start ≡ start_of held p → goal ≡ goal_on h.follow.line course start → far ≡ distance p goal
        → on ≡ on_course h.follow.line → long ≡ long_enough on held → TellsOf (arrival_from h.arrived long far e) held h b m told
        → g ≡ guide_at course p goal far w (state_of m b) → state_of r b ≡ with_guide (Some g) (state_of m b) → r.trail ≡ m.trail
        → r.window ≡ m.window → TellsOf (finished course p w e) held h b r told
    unfolding guide_at
    tells-shown {goal = goal} {far = far} {m = m} es eg ed eo el t eq is kept stays =
        let whole = shows es eg ed eo el in
        record {
          told = t.told ∙ sym (ap (λ (d : Done Event). d.answer) whole);
          same =
              ap (holding held) is
              ∙ ap (λ (x : Guide). with_guide (Some x) (holding held (state_of m b))) eq
              ∙ ap (λ (u : State). with_guide (Some (guide_at course p goal far w u)) u) t.same
              ∙ sym (ap (λ (d : Done Event). d.state) whole);
          trail = kept ∙ t.trail;
          window = stays ∙ t.window;
        }

  -- ---- nothing to follow
  abbrev way : Float → Point → Way
  way far target = record { mode = mode.Direct; track = far; off = plus_zero; target = target }

  pub tells-straight : {far : Float} {start : Point} {r : Homing} {told : Event} → far ≡ recorded_m held p → start ≡ start_of held p
      → TellsOf (finished course p (way far start) event.Nothing) held h b r told → TellsOf (direct course p) held h b r told
  unfolding direct
  tells-straight {far} {start} et es t =
      let by : Float → Point → Done Event = λ d q. finished course p (way d q) event.Nothing here in
      let whole : direct course p here ≡ by far start =
      sym (ap (λ (q : Point). by (recorded_m held p) q) es) ∙ sym (ap (λ (d : Float). by d start) et) in
      record {
        told = t.told ∙ sym (ap (λ (d : Done Event). d.answer) whole);
        same = t.same ∙ sym (ap (λ (d : Done Event). d.state) whole);
        trail = t.trail;
        window = t.window;
      }

-- ---- the crumbs lent are the state's
pub tells-held : {rule : State → Done Event} {h r : Homing} {b : List Float} {held : List Crumb} {e : Event}
    → held ≡ (state_of h b).track.crumbs → TellsOf rule held h b r e → Tells rule h b r e
unfolding track
tells-held {rule} {h} {r} {b} {held} is t =
    let after : held ≡ (state_of r b).track.crumbs = is ∙ sym (ap (λ (x : Trail). crumbs x.len b) t.trail) in
    record {
      told = t.told ∙ ap (λ (l : List Crumb). (rule (holding l (state_of h b))).answer) is;
      same =
          sym (ap (λ (l : List Crumb). holding l (state_of r b)) after)
          ∙ t.same
          ∙ ap (λ (l : List Crumb). (rule (holding l (state_of h b))).state) is;
      trail = t.trail;
      window = t.window;
    }
