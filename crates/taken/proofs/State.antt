-- The state that a guide's own calls make, and what changes one part of it. Assumes nothing.
use Prim.Native.Nat.{ℕ, ◌≤◌, ◌<◌}
use mathlib.Core.Path.{◌≡◌, refl}
use mathlib.Core.Bool.{Bool, true}
use mathlib.Core.List.{List}
use lib.ListN.{length}
use Rattle.std.specs.Prelude.{Option, None}
use Rattle.state.specs.declared.Guide.{Guide}
use Rattle.plane.specs.declared.Fix.{Fix}
use Rattle.plane.specs.declared.Point.{Point}
use Rattle.motion.specs.declared.Motion.{Motion}
use Rattle.lap.specs.declared.Lap.{Lap}
use Rattle.crumbs.specs.declared.Crumb.{Crumb}
use Rattle.trail.specs.Trail.{Track}
use Rattle.state.specs.declared.Frame.{Frame}
use Rattle.state.specs.declared.Line.{Line}
use Rattle.state.specs.declared.Line.TheVariants as line
use Rattle.state.specs.declared.Follow.{Follow}
use Rattle.state.specs.declared.Course.{Course}
use Rattle.state.specs.State.{State, with_track, with_frame, with_fed, with_here, with_here_ms, with_motion, with_follow, with_course}
use Rattle.state.specs.State.{with_auto_follow, with_arrived, with_lap, with_updated_ms, with_guide}
use Rattle.calls.specs.Questions.{shown_fits}
use Rattle.taken.proofs.Bounds.{Along, far}
use Rattle.taken.proofs.Laid.{most, Laid}
use Rattle.taken.proofs.Recording.{Recorded}
use Rattle.taken.proofs.Onward.{Counted}
use Rattle.taken.proofs.Moving.{Spotted, Framed, Moving}

-- nothing is shown
pub nothing-shown : shown_fits None ≡ true
unfolding shown_fits
nothing-shown = refl

-- a placed course
pub record Lined (course : List Crumb) : Type 0 where
  pub laid : Laid 0 course
  pub few : length course ≤ most

-- a segment of the followed line, of a breadcrumb of `len` crumbs or a course of `points`
abbrev pub SegmentOn : Line → ℕ → ℕ → ℕ → Type 0
SegmentOn line.Nothing segment len points = Unit {0}
SegmentOn line.Breadcrumb segment len points = (1 ≤ segment) × (segment < len)
SegmentOn line.Course segment len points = (1 ≤ segment) × (segment < points)

pub record Followed (len points : ℕ) (f : Follow) : Type 0 where
  pub segment : SegmentOn f.line f.segment len points
  pub matched : Spotted f.matched

pub record Coursed (points : ℕ) (c : Course) : Type 0 where
  pub len : c.line_len ≡ points
  pub along : Along far c.along
  pub reached : Along far c.reached
  pub fix : Spotted c.fix

-- C is how many crumbs there is room for, `points` how many the placed course has
pub record Kept (C points : ℕ) (s : State) : Type 0 where
  pub track : Recorded C s.track
  pub counted : Counted s.track
  pub frame : Framed s.frame
  pub here : Spotted s.here
  pub motion : Moving s.motion
  pub follow : Followed (length s.track.crumbs) points s.follow
  pub course : Coursed points s.course
  pub lap : Spotted s.lap.start
  pub guide : shown_fits s.guide ≡ true

module _ {C points : ℕ} {s : State} (k : Kept C points s) where
  pub kept-track : {x : Track} → Recorded C x → Counted x → Followed (length x.crumbs) points s.follow → Kept C points (with_track x s)
  kept-track r c f = record {
    track = r;
    counted = c;
    frame = k.frame;
    here = k.here;
    motion = k.motion;
    follow = f;
    course =
        k.course;
    lap = k.lap;
    guide = k.guide;
  }

  pub kept_frame : {x : Frame} → Framed x → Kept C points (with_frame x s)
  kept_frame h = record {
    track = k.track;
    counted = k.counted;
    frame = h;
    here = k.here;
    motion = k.motion;
    follow =
        k.follow;
    course = k.course;
    lap = k.lap;
    guide = k.guide;
  }

  pub kept-fed : {x : Option Fix} → Kept C points (with_fed x s)
  kept-fed = record {
    track = k.track;
    counted = k.counted;
    frame = k.frame;
    here = k.here;
    motion = k.motion;
    follow =
        k.follow;
    course = k.course;
    lap = k.lap;
    guide = k.guide;
  }

  pub kept_here : {x : Option Point} → Spotted x → Kept C points (with_here x s)
  kept_here h = record {
    track = k.track;
    counted = k.counted;
    frame = k.frame;
    here = h;
    motion = k.motion;
    follow =
        k.follow;
    course = k.course;
    lap = k.lap;
    guide = k.guide;
  }

  pub kept-here-ms : {x : ℕ} → Kept C points (with_here_ms x s)
  kept-here-ms = record {
    track = k.track;
    counted = k.counted;
    frame = k.frame;
    here = k.here;
    motion = k.motion;
    follow =
        k.follow;
    course = k.course;
    lap = k.lap;
    guide = k.guide;
  }

  pub kept-motion : {x : Motion} → Moving x → Kept C points (with_motion x s)
  kept-motion h = record {
    track = k.track;
    counted = k.counted;
    frame = k.frame;
    here = k.here;
    motion = h;
    follow =
        k.follow;
    course = k.course;
    lap = k.lap;
    guide = k.guide;
  }

  pub kept-follow : {x : Follow} → Followed (length s.track.crumbs) points x → Kept C points (with_follow x s)
  kept-follow h = record {
    track = k.track;
    counted = k.counted;
    frame = k.frame;
    here = k.here;
    motion = k.motion;
    follow =
        h;
    course = k.course;
    lap = k.lap;
    guide = k.guide;
  }

  pub kept-course : {x : Course} → Coursed points x → Kept C points (with_course x s)
  kept-course h = record {
    track = k.track;
    counted = k.counted;
    frame = k.frame;
    here = k.here;
    motion = k.motion;
    follow =
        k.follow;
    course = h;
    lap = k.lap;
    guide = k.guide;
  }

  pub kept-auto-follow : {x : Bool} → Kept C points (with_auto_follow x s)
  kept-auto-follow = record {
    track = k.track;
    counted = k.counted;
    frame = k.frame;
    here = k.here;
    motion = k.motion;
    follow =
        k.follow;
    course = k.course;
    lap = k.lap;
    guide = k.guide;
  }

  pub kept-arrived : {x : Bool} → Kept C points (with_arrived x s)
  kept-arrived = record {
    track = k.track;
    counted = k.counted;
    frame = k.frame;
    here = k.here;
    motion = k.motion;
    follow =
        k.follow;
    course = k.course;
    lap = k.lap;
    guide = k.guide;
  }

  pub kept-lap : {x : Lap} → Spotted x.start → Kept C points (with_lap x s)
  kept-lap h = record {
    track = k.track;
    counted = k.counted;
    frame = k.frame;
    here = k.here;
    motion = k.motion;
    follow =
        k.follow;
    course = k.course;
    lap = h;
    guide = k.guide;
  }

  pub kept-updated : {x : ℕ} → Kept C points (with_updated_ms x s)
  kept-updated = record {
    track = k.track;
    counted = k.counted;
    frame = k.frame;
    here = k.here;
    motion = k.motion;
    follow =
        k.follow;
    course = k.course;
    lap = k.lap;
    guide = k.guide;
  }

  pub kept-guide : {x : Option Guide} → shown_fits x ≡ true → Kept C points (with_guide x s)
  kept-guide h = record {
    track = k.track;
    counted = k.counted;
    frame = k.frame;
    here = k.here;
    motion = k.motion;
    follow =
        k.follow;
    course = k.course;
    lap = k.lap;
    guide = h;
  }
