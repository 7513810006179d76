-- The guide's state as the rules see it: the groups of the program's state, with the breadcrumb and the window as lists.
use Rattle.std.specs.Prelude.{ℕ, Bool, List, Float, Option}
use Rattle.plane.specs.declared.Fix.{Fix}
use Rattle.state.specs.declared.Guide.{Guide}
use Rattle.plane.specs.declared.Point.{Point}
use Rattle.motion.specs.declared.Motion.{Motion}
use Rattle.trail.specs.Trail.{Track}
use Rattle.trail.specs.View.{track}
use Rattle.state.specs.declared.Frame.{Frame}
use Rattle.state.specs.declared.Follow.{Follow}
use Rattle.state.specs.declared.Course.{Course}
use Rattle.lap.specs.declared.Lap.{Lap}
use Rattle.state.specs.declared.Homing.{Homing}

pub record State : Type 0 where
  pub track : Track
  pub frame : Frame
  pub fed : Option Fix
  pub here : Option Point
  pub here_ms : ℕ
  pub motion : Motion
  pub follow : Follow
  pub course : Course
  pub auto_follow : Bool
  pub arrived : Bool
  pub lap : Lap
  pub updated_ms : ℕ
  pub guide : Option Guide

-- the state of these groups
abbrev pub state_with : Track → Frame → Option Fix → Option Point → ℕ → Motion → Follow → Course → Bool → Bool → Lap → ℕ → Option Guide
    → State
state_with track frame fed here here_ms motion follow course auto_follow arrived lap updated_ms guide =
    record {
      track = track;
      frame = frame;
      fed = fed;
      here = here;
      here_ms = here_ms;
      motion = motion;
      follow = follow;
      course = course;
      auto_follow = auto_follow;
      arrived = arrived;
      lap = lap;
      updated_ms = updated_ms;
      guide = guide;
    }

-- the program's state and its crumb buffer, as the rules see them
abbrev pub state_of : Homing → List Float → State
state_of h b =
    state_with (track h.trail h.window b) h.frame h.fed h.here h.here_ms h.motion h.follow
    h.course h.auto_follow h.arrived h.lap h.updated_ms h.guide

-- the state with one of its groups replaced
abbrev pub with_track : Track → State → State
with_track x s =
    state_with x s.frame s.fed s.here s.here_ms s.motion s.follow
    s.course s.auto_follow s.arrived s.lap s.updated_ms s.guide

abbrev pub with_frame : Frame → State → State
with_frame x s =
    state_with s.track x s.fed s.here s.here_ms s.motion s.follow
    s.course s.auto_follow s.arrived s.lap s.updated_ms s.guide

abbrev pub with_fed : Option Fix → State → State
with_fed x s =
    state_with s.track s.frame x s.here s.here_ms s.motion s.follow
    s.course s.auto_follow s.arrived s.lap s.updated_ms s.guide

abbrev pub with_here : Option Point → State → State
with_here x s =
    state_with s.track s.frame s.fed x s.here_ms s.motion s.follow
    s.course s.auto_follow s.arrived s.lap s.updated_ms s.guide

abbrev pub with_here_ms : ℕ → State → State
with_here_ms x s =
    state_with s.track s.frame s.fed s.here x s.motion s.follow
    s.course s.auto_follow s.arrived s.lap s.updated_ms s.guide

abbrev pub with_motion : Motion → State → State
with_motion x s =
    state_with s.track s.frame s.fed s.here s.here_ms x s.follow
    s.course s.auto_follow s.arrived s.lap s.updated_ms s.guide

abbrev pub with_follow : Follow → State → State
with_follow x s =
    state_with s.track s.frame s.fed s.here s.here_ms s.motion x
    s.course s.auto_follow s.arrived s.lap s.updated_ms s.guide

abbrev pub with_course : Course → State → State
with_course x s =
    state_with s.track s.frame s.fed s.here s.here_ms s.motion s.follow
    x s.auto_follow s.arrived s.lap s.updated_ms s.guide

abbrev pub with_auto_follow : Bool → State → State
with_auto_follow x s =
    state_with s.track s.frame s.fed s.here s.here_ms s.motion s.follow
    s.course x s.arrived s.lap s.updated_ms s.guide

abbrev pub with_arrived : Bool → State → State
with_arrived x s =
    state_with s.track s.frame s.fed s.here s.here_ms s.motion s.follow
    s.course s.auto_follow x s.lap s.updated_ms s.guide

abbrev pub with_lap : Lap → State → State
with_lap x s =
    state_with s.track s.frame s.fed s.here s.here_ms s.motion s.follow
    s.course s.auto_follow s.arrived x s.updated_ms s.guide

abbrev pub with_updated_ms : ℕ → State → State
with_updated_ms x s =
    state_with s.track s.frame s.fed s.here s.here_ms s.motion s.follow
    s.course s.auto_follow s.arrived s.lap x s.guide

abbrev pub with_guide : Option Guide → State → State
with_guide x s =
    state_with s.track s.frame s.fed s.here s.here_ms s.motion s.follow
    s.course s.auto_follow s.arrived s.lap s.updated_ms x

-- the course group of these fields
abbrev pub course_with : ℕ → Bool → Bool → ℕ → ℕ → Float → Float → Option Point → Course
course_with line_len unplaced held join_fixes join_end along reached fix =
    record {
      line_len = line_len;
      unplaced = unplaced;
      held = held;
      join_fixes = join_fixes;
      join_end = join_end;
      along = along;
      reached = reached;
      fix = fix;
    }
