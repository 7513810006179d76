-- What the functions promise of a rebuild, a guide's state and its crumb buffer.
use Rattle.std.specs.Prelude.{ℕ, ◌≡◌, List, length, Float}
use Rattle.crumbs.specs.Crumb.{capacity, behind}
use Rattle.trail.specs.View as trail
use Rattle.state.specs.declared.Homing.{Homing}
use Rattle.state.specs.State.{state_of}
use Rattle.rebuild.specs.declared.Rebuild.{Rebuild}
use Rattle.rebuild.specs.Made.{Made, effect, most_held}

-- A rule is followed, from a state and its crumb buffer to a rebuild, a state and its crumb buffer.
pub record Makes (rule : Made) (h : Homing) (entry : List Float) (r : Rebuild) (n : Homing) (exit : List Float) : Type 0 where
  pub rebuilt : r ≡ rule.rebuild
  pub same : state_of n exit ≡ (effect rule (capacity (length entry)) (state_of h entry)).state
  pub fit : trail.TrailFit n.trail (length exit)
  pub size : length exit ≡ length entry
  -- The numbers behind the most crumbs held on the way are unchanged. Free are those behind the crumbs held after, where more were held on
  -- the way, and the numbers of the window that belong to no waiting place.
  pub beyond : behind (most_held (capacity (length entry)) rule.calls (state_of h entry)) exit
      ≡ behind (most_held (capacity (length entry)) rule.calls (state_of h entry)) entry

-- A rule is followed that writes to no crumb buffer, whatever the buffer b holds and however many crumbs C it has room for.
pub record Settles (rule : Made) (h : Homing) (r : Rebuild) (n : Homing) : Type 0 where
  pub rebuilt : r ≡ rule.rebuild
  pub same : (C : ℕ) (b : List Float) → state_of n b ≡ (effect rule C (state_of h b)).state
  pub fit : (size : ℕ) → trail.TrailFit h.trail size → trail.TrailFit n.trail size
