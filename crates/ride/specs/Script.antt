-- A list of calls as `ride` is given it: each value is one call of the rules.
use Rattle.std.specs.Prelude.{ℕ, Bool, true, cond, List, [], ◌∷◌, map, leb, length}
use Rattle.std.specs.Borrow.{Bor}
use Rattle.course.specs.Course.{fixes}
use Rattle.calls.specs.Calls as rule
use Rattle.ride.specs.declared.Query.{Query}
use Rattle.ride.specs.declared.Query.TheVariants as query
use Rattle.ride.specs.declared.Call.{Call}
use Rattle.ride.specs.declared.Call.TheVariants as call

abbrev pub query_of : Query → rule.Call
query_of query.Len = rule.Ask rule.Len
query_of query.Following = rule.Ask rule.Following
query_of query.FollowingCourse = rule.Ask rule.FollowingCourse
query_of (query.Course line) = rule.Ask (rule.Course line.now)
query_of query.CourseAhead = rule.Ask rule.CourseAhead
query_of query.Crumbs = rule.Ask rule.Crumbs
query_of query.WayBack = rule.Ask rule.WayBack
query_of query.Heading = rule.Ask rule.Heading
query_of query.RouteHome = rule.Ask rule.RouteHome
query_of query.Guide = rule.Ask rule.Guide

abbrev pub call_of : Call → rule.Call
call_of (call.Ask q) = query_of q
call_of call.Reset = rule.Reset
call_of call.EndReplay = rule.EndReplay
call_of (call.SetCourse line lats lons) = rule.SetCourse line.now (fixes lats.now lons.now)
call_of (call.SetAutoFollow on) = rule.SetAutoFollow on
call_of (call.Observe line place now_ms) = rule.Observe line.now place now_ms
call_of (call.Replay fix at_ms) = rule.Replay fix at_ms
call_of (call.SetFollowing line follow now_ms) = rule.SetFollowing line.now follow now_ms

-- whether a working line of `room` numbers has room for a copy of the line that the call writes
abbrev pub has_room : ℕ → Call → Bool
has_room room (call.SetCourse line lats lons) = leb (length line.now) room
has_room room _ = true

-- the calls; the list ends at the first for whose copy there is no room
unfoldable pub written : ℕ → List Call → List rule.Call
written room [] = []
written room (c ∷ cs) = cond (has_room room c) (call_of c ∷ written room cs) []

-- what the references of a slice point to
abbrev pub pointed : List (Bor Call) → List Call
pointed calls = map (λ c. c.now) calls
