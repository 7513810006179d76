-- For the functions inside: what the questions give of a state that takes a fix, and what the functions promise.
use Rattle.std.specs.Prelude.{ℕ, ◌≤◌, ◌<◌, ◌≡◌, List, Float}
use Rattle.trail.specs.Trail.{retrace_fixes}
use Rattle.trail.specs.View as trail
use Rattle.state.specs.declared.Line.TheVariants as line
use Rattle.state.specs.declared.Homing.{Homing}
use Rattle.state.specs.State.{state_of}
use Rattle.follow.specs.View.{HomingFit}
use Rattle.calls.specs.Fix.{turned_back}

-- the questions' answers for a state, a crumb buffer and a course of n points
pub record Ready (h : Homing) (room n : ℕ) : Type 0 where
  pub fit : HomingFit h room n
  pub retrace : h.trail.retrace < retrace_fixes
  pub back : (h.trail.retrace ≡ 0 → ⊥) → h.trail.retrace_len ≤ h.trail.len

-- the breadcrumb is not followed: it may grow
abbrev pub Grows : Homing → Type 0
Grows h = h.follow.line ≡ line.Breadcrumb → ⊥

-- The breadcrumb is cut back to where the rider turned round, on a buffer that holds it.
pub record TurnsBack (h r : Homing) : Type 0 where
  pub same : (b : List Float) → state_of r b ≡ turned_back (state_of h b)
  pub fit : (size : ℕ) → trail.TrailFit h.trail size → trail.TrailFit r.trail size
  pub fewer : r.trail.len ≤ h.trail.len
  pub window : r.window ≡ h.window
