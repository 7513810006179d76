-- For the functions inside: what they promise of a state and the lent line.
use Rattle.std.specs.Prelude.{◌≡◌, List, length, Float}
use Rattle.crumbs.specs.Crumb.{crumbs, behind}
use Rattle.trail.specs.Trail as trail
use Rattle.trail.specs.Inner.{TrailChanges, Emptied}
use Rattle.trail.specs.View.{empty_window}
use Rattle.state.specs.declared.Homing.{Homing}
use Rattle.state.specs.State.{state_of}
use Rattle.plane.specs.declared.Fix.{Fix}
use Rattle.course.specs.Course.{line_of}
use Rattle.calls.specs.Line.{new, reset, set_course}

-- A new guide, whatever the crumb buffer holds.
pub record MadeNew (r : Homing) : Type 0 where
  pub same : (b : List Float) → state_of r b ≡ new
  pub trail : Emptied r.trail
  pub window : r.window ≡ empty_window

-- A guide reset, whatever the crumb buffer holds. The window's numbers are free: none belongs to a waiting place.
pub record Resets (h r : Homing) : Type 0 where
  pub same : (b : List Float) → state_of r b ≡ (reset (state_of h b)).state
  pub trail : (w : List Float) → TrailChanges trail.reset_track h.trail w r.trail w

-- A course of the points xs set, whatever the crumb buffer holds, and placed in a line buffer. The numbers behind the placed line are
-- unchanged.
pub record SetsLine (xs : List Fix) (h : Homing) (entry : List Float) (r : Homing) (exit : List Float) : Type 0 where
  pub same : (b : List Float) → state_of r b ≡ (set_course xs (state_of h b)).state
  pub trail : r.trail ≡ h.trail
  pub placed : crumbs r.course.line_len exit ≡ line_of h.frame xs
  pub beyond : behind r.course.line_len exit ≡ behind r.course.line_len entry
  pub size : length exit ≡ length entry
