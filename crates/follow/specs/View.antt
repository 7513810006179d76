-- For the functions inside: what the questions give of a state and its two lent buffers, and what the functions promise of them.
use Rattle.std.specs.Prelude.{ℕ, ◌≤◌, ◌<◌, max, ◌≡◌, Bool, List, length, Float}
use Rattle.crumbs.specs.declared.Crumb.{Crumb}
use Rattle.crumbs.specs.Crumb.{capacity, crumbs, behind}
use Rattle.trail.specs.View as trail
use Rattle.state.specs.declared.Line.TheVariants as line
use Rattle.state.specs.declared.Homing.{Homing}
use Rattle.trail.specs.declared.Trail.{Trail}
use Rattle.state.specs.State.{State, state_of}
use Rattle.state.specs.Rule.{Done}

-- the placed course in a line buffer
abbrev pub course_of : Homing → List Float → List Crumb
course_of h b = crumbs h.course.line_len b

-- a state that fits a crumb buffer and a course of n points, as far as following needs it
pub record HomingFit (h : Homing) (room n : ℕ) : Type 0 where
  pub trail : trail.TrailFit h.trail room
  pub on_trail : h.follow.line ≡ line.Breadcrumb → (1 ≤ h.follow.segment) × (h.follow.segment < h.trail.len)
  pub on_course : h.follow.line ≡ line.Course → (1 ≤ h.follow.segment) × (h.follow.segment < n)

-- A change that leaves the trail, and so the crumbs, alone, and the window's numbers: it is the rule's whatever the buffer holds.
pub record Changes (rule : State → State) (h r : Homing) : Type 0 where
  pub same : (b : List Float) → state_of r b ≡ rule (state_of h b)
  pub trail : r.trail ≡ h.trail
  pub window : r.window ≡ h.window

-- A rule is followed, from a state and its crumb buffer to a state and its crumb buffer.
pub record Follows {A : Type 0} (rule : ℕ → State → Done A) (h : Homing) (entry : List Float) (r : Homing) (exit : List Float) :
    Type 0 where
  pub same : state_of r exit ≡ (rule (capacity (length entry)) (state_of h entry)).state
  pub fit : trail.TrailFit r.trail (length exit)
  pub size : length exit ≡ length entry
  -- the numbers behind the crumbs held before and after are unchanged; free are those behind the crumbs held after where there are fewer,
  -- and the numbers of the window that belong to no waiting place
  pub beyond : behind (max h.trail.len r.trail.len) exit ≡ behind (max h.trail.len r.trail.len) entry

-- a trail that holds as many crumbs and waiting places as another, at the same tolerance
pub record SameHeld (t r : Trail) : Type 0 where
  pub len : r.len ≡ t.len
  pub tolerance : r.tolerance ≡ t.tolerance
  pub waiting : r.window_len ≡ t.window_len

-- A rule that answers yes or no, keeps no crumb and leaves the window's numbers alone, on a crumb buffer b.
pub record Asks (rule : State → Done Bool) (h : Homing) (b : List Float) (r : Homing) (yes : Bool) : Type 0 where
  pub answered : yes ≡ (rule (state_of h b)).answer
  pub same : state_of r b ≡ (rule (state_of h b)).state
  pub held : SameHeld h.trail r.trail
  pub window : r.window ≡ h.window
