-- Following begun and ended by the rider: `set_following`, `set_auto_follow`. Document 01, "Guide and event"; homing.rs.
use Rattle.std.specs.Prelude.{ℕ, Bool, true, false, List, Option, Some, None}
use Rattle.segments.specs.declared.costs.Nearest.{Nearest}
use Rattle.plane.specs.declared.Point.{Point}
use Rattle.crumbs.specs.declared.Crumb.{Crumb}
use Rattle.search.specs.Course.{course_near}
use Rattle.state.specs.declared.Line.{Line}
use Rattle.state.specs.declared.Line.TheVariants as line
use Rattle.state.specs.State.{State, with_auto_follow}
use Rattle.state.specs.Rule.{Done, done, and_then}
use Rattle.follow.specs.Record.{flush_in}
use Rattle.follow.specs.Engage.{engage_at, engage, stop}
use Rattle.matching.specs.Distances.{drop_m}
use Rattle.update.specs.Update.{update}

-- the guide brought up to date where there is a place to show, and the answer yes
unfoldable pub update_here : Option Point → ℕ → List Crumb → ℕ → State → Done Bool
update_here None C course now s = done true s
update_here (Some p) C course now s = and_then (update C course p now s) λ _ after. done true after

unfoldable pub brought : ℕ → List Crumb → ℕ → State → Done Bool
brought C course now s = update_here s.here C course now s

unfoldable pub engaged_or : Bool → ℕ → List Crumb → ℕ → State → Done Bool
engaged_or true C course now s = brought C course now s
engaged_or false C course now s = done false s

-- "If `set_following` finds no way back it answers false, the window already flushed."
unfoldable pub way_home : ℕ → List Crumb → ℕ → State → Done Bool
way_home C course now s =
    and_then (flush_in C s) λ _ flushed.
    and_then (engage course now flushed) λ b after.
    engaged_or b C course now after

-- the course while it is near, else the breadcrumb back
unfoldable pub follow : Option Nearest → ℕ → List Crumb → ℕ → State → Done Bool
follow (Some near) C course now s = brought C course now (engage_at course line.Course near.end now s)
follow None C course now s = way_home C course now s

unfoldable pub near_here : Option Point → List Crumb → Option Nearest
near_here None course = None
near_here (Some p) course = course_near course p drop_m

-- by the line that is followed already
unfoldable pub follow_from : Line → ℕ → List Crumb → ℕ → State → Done Bool
follow_from line.Nothing C course now s = follow (near_here s.here course) C course now s
follow_from line.Breadcrumb C course now s = brought C course now s
follow_from line.Course C course now s = brought C course now s

unfoldable pub set_following : Bool → ℕ → List Crumb → ℕ → State → Done Bool
set_following true C course now s = follow_from s.follow.line C course now s
set_following false C course now s = and_then (stop C s) λ _ after. brought C course now after

-- turned off, it also stops a following under way
unfoldable pub auto_off : Bool → ℕ → State → Done (Unit {0})
auto_off true C s = and_then (stop C s) λ _ after. done tt (with_auto_follow false after)
auto_off false C s = done tt (with_auto_follow false s)

unfoldable pub set_auto_follow : Bool → ℕ → State → Done (Unit {0})
set_auto_follow true C s = done tt (with_auto_follow true s)
set_auto_follow false C s = auto_off s.auto_follow C s
