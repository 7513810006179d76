-- For the functions inside: what a call that answers yes or no promises of a state and its two lent buffers.
use Rattle.std.specs.Prelude.{ℕ, ◌≡◌, Bool, List, length, Float}
use Rattle.crumbs.specs.Crumb.{capacity}
use Rattle.state.specs.declared.Homing.{Homing}
use Rattle.state.specs.State.{State, state_of}
use Rattle.state.specs.Rule.{Done}
use Rattle.follow.specs.View.{Follows}

-- A rule that answers yes or no, from a state and its crumb buffer to a state and its crumb buffer.
pub record Decides (rule : ℕ → State → Done Bool) (h : Homing) (entry : List Float) (r : Homing) (yes : Bool) (exit : List Float) :
    Type 0 where
  pub answered : yes ≡ (rule (capacity (length entry)) (state_of h entry)).answer
  pub follows : Follows rule h entry r exit
