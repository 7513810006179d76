-- For the functions inside: what a function that shows a guide promises.
use Rattle.std.specs.Prelude.{◌≡◌, List, Float}
use Rattle.state.specs.declared.Event.{Event}
use Rattle.state.specs.declared.Homing.{Homing}
use Rattle.crumbs.specs.declared.Crumb.{Crumb}
use Rattle.trail.specs.Trail.{with_crumbs}
use Rattle.state.specs.State.{State, state_of, with_track}
use Rattle.state.specs.Rule.{Done}

-- A rule that tells an event, keeps no crumb and leaves the window's numbers alone, on a crumb buffer b.
pub record Tells (rule : State → Done Event) (h : Homing) (b : List Float) (r : Homing) (e : Event) : Type 0 where
  pub told : e ≡ (rule (state_of h b)).answer
  pub same : state_of r b ≡ (rule (state_of h b)).state
  pub trail : r.trail ≡ h.trail
  pub window : r.window ≡ h.window

-- the state with these crumbs held
abbrev pub holding : List Crumb → State → State
holding l s = with_track (with_crumbs l s.track) s

-- The same of a function that is lent the crumbs l beside the state: it tells what the rule tells where these are held.
pub record TellsOf (rule : State → Done Event) (l : List Crumb) (h : Homing) (b : List Float) (r : Homing) (e : Event) : Type 0 where
  pub told : e ≡ (rule (holding l (state_of h b))).answer
  pub same : holding l (state_of r b) ≡ (rule (holding l (state_of h b))).state
  pub trail : r.trail ≡ h.trail
  pub window : r.window ≡ h.window
