-- The breadcrumb in the whole state. Document 01, "Crumb": "Added: a thinning while the breadcrumb is followed [..] ends the following".
use Rattle.std.specs.Prelude.{ℕ, Bool, true, false}
use Rattle.plane.specs.declared.Point.{Point}
use Rattle.trail.specs.Notes.{thinned_in}
use Rattle.trail.specs.Trail.{Track}
use Rattle.trail.specs.Trail as trail
use Rattle.state.specs.declared.Follow.{Follow}
use Rattle.state.specs.State.{State, with_track, with_follow}
use Rattle.state.specs.Rule.{Done}
use Rattle.follow.specs.Parts.{ended_by_thinning}

unfoldable pub after_thinning : Bool → Follow → Follow
after_thinning true f = ended_by_thinning f.line f
after_thinning false f = f

-- the state with another track, after a thinning or not
unfoldable pub recorded_in : Bool → Track → State → State
recorded_in thinned t s = with_follow (after_thinning thinned s.follow) (with_track t s)

-- what was done to the breadcrumb, in the whole state
unfoldable pub recorded : trail.TrailDone → State → Done (Unit {0})
recorded d s = record { answer = tt; state = recorded_in (thinned_in d.notes) d.track s; notes = d.notes }

-- a crumb is kept at p; p is added by way of the window; the window's last place is kept
unfoldable pub keep_in : ℕ → Point → State → Done (Unit {0})
keep_in C p s = recorded (trail.keep C p s.track) s

unfoldable pub add_in : ℕ → Point → State → Done (Unit {0})
add_in C p s = recorded (trail.add C p s.track) s

unfoldable pub flush_in : ℕ → State → Done (Unit {0})
flush_in C s = recorded (trail.flush C s.track) s
