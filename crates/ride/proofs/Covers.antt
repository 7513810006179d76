-- Every list of calls of machine size can be written: it is what its writing says. Assumes nothing.
use Prim.Native.Nat.{ℕ, ◌*◌, ◌^◌, ◌≤◌, ◌<◌, max}
use mathlib.Core.Path.{◌≡◌, refl, ap}
use mathlib.Core.Bool.{true}
use mathlib.Core.List.{List, [], ◌∷◌, map}
use native.Mathlib.Omega.{arith}
use borrow.Author.Tests.{le-leb}
use denote.Bor.{Bor}
use lib.IntN.{ℤ}
use lib.ListN.{length, length-map}
use Rattle.std.specs.Prelude.{Some, None}
use Rattle.plane.specs.declared.Fix.{Fix}
use Rattle.course.specs.Course.{fixes}
use Rattle.calls.specs.Calls as rule
use Rattle.calls.specs.Calls.{Loan, arguments}
use Rattle.ride.specs.declared.Query.{Query}
use Rattle.ride.specs.declared.Query.TheVariants as query
use Rattle.ride.specs.declared.Call.{Call}
use Rattle.ride.specs.declared.Call.TheVariants as call
use Rattle.ride.specs.Script.{call_of, has_room, written, pointed}
use Rattle.ride.specs.Theorems.{Each, SliceOf, reference_bytes, lent_line, CallOfMachineSize, IsCall, EveryListWritten}

-- ---- how a call is written, wherever what it is lent lies
abbrev lent : {A : Type 0} → A → Bor A
lent x = record { ref_ptr = (0, 0); now = x }

abbrev write_query : {loan : Loan} → rule.Query loan → Query
write_query rule.Len = query.Len
write_query rule.Following = query.Following
write_query rule.FollowingCourse = query.FollowingCourse
write_query (rule.Course line) = query.Course (lent line)
write_query rule.CourseAhead = query.CourseAhead
write_query rule.Crumbs = query.Crumbs
write_query rule.WayBack = query.WayBack
write_query rule.Heading = query.Heading
write_query rule.RouteHome = query.RouteHome
write_query rule.Guide = query.Guide

abbrev lats_of : List Fix → List ℤ
lats_of points = map (λ x. x.lat) points

abbrev lons_of : List Fix → List ℤ
lons_of points = map (λ x. x.lon) points

abbrev write : rule.Call → Call
write (rule.Ask q) = call.Ask (write_query q)
write rule.Reset = call.Reset
write rule.EndReplay = call.EndReplay
write (rule.SetCourse line points) = call.SetCourse (lent line) (lent (lats_of points)) (lent (lons_of points))
write (rule.SetAutoFollow on) = call.SetAutoFollow on
write (rule.Observe line place clock) = call.Observe (lent line) place clock
write (rule.Replay point clock) = call.Replay point clock
write (rule.SetFollowing line on clock) = call.SetFollowing (lent line) on clock

abbrev refer : rule.Call → Bor Call
refer c = lent (write c)

-- the points in two lists
pairs : (points : List Fix) → fixes (lats_of points) (lons_of points) ≡ points
unfolding fixes
pairs [] = refl
pairs (x ∷ points) = ap (λ l. x ∷ l) (pairs points)

again : (c : rule.Call) → call_of (write c) ≡ c
again (rule.Ask rule.Len) = refl
again (rule.Ask rule.Following) = refl
again (rule.Ask rule.FollowingCourse) = refl
again (rule.Ask (rule.Course line)) = refl
again (rule.Ask rule.CourseAhead) = refl
again (rule.Ask rule.Crumbs) = refl
again (rule.Ask rule.WayBack) = refl
again (rule.Ask rule.Heading) = refl
again (rule.Ask rule.RouteHome) = refl
again (rule.Ask rule.Guide) = refl
again rule.Reset = refl
again rule.EndReplay = refl
again (rule.SetCourse line points) = ap (rule.SetCourse line) (pairs points)
again (rule.SetAutoFollow on) = refl
again (rule.Observe line place clock) = refl
again (rule.Replay point clock) = refl
again (rule.SetFollowing line on clock) = refl

-- ---- the working line is as long as the longest that is lent
abbrev size_of : rule.Call → ℕ
size_of c = length (lent_line (arguments c).loan)

abbrev room_for : List rule.Call → ℕ
room_for [] = 0
room_for (c ∷ cs) = max (size_of c) (room_for cs)

roomy : (cs : List rule.Call) → Each CallOfMachineSize cs → room_for cs * 4 < 2 ^ 63
roomy [] h = omega arith
roomy (c ∷ cs) h = omega (arith, h.0.line.1, roomy cs h.1)

fits : (room : ℕ) (c : rule.Call) → size_of c ≤ room → has_room room (write c) ≡ true
fits room (rule.Ask q) h = refl
fits room rule.Reset h = refl
fits room rule.EndReplay h = refl
fits room (rule.SetCourse line points) h = le-leb (length line) room h
fits room (rule.SetAutoFollow on) h = refl
fits room (rule.Observe line place clock) h = refl
fits room (rule.Replay point clock) h = refl
fits room (rule.SetFollowing line on clock) h = refl

says : (room : ℕ) (cs : List rule.Call) → room_for cs ≤ room → written room (pointed (map refer cs)) ≡ cs
unfolding written
says room [] h = refl
says room (c ∷ cs) h =
    let this : size_of c ≤ room = omega arith in
    let rest : room_for cs ≤ room = omega arith in
    rw (fits room c this, again c, says room cs rest)

-- ---- each value is of its type
each_map : {A B : Type 0} (P : B → Type 0) (f : A → B) (xs : List A) → Each (λ x. P (f x)) xs → Each P (map f xs)
each_map P f [] h = tt
each_map P f (x ∷ xs) h = (h.0, each_map P f xs h.1)

slice-map : {A B : Type 0} (P : B → Type 0) (f : A → B) (bytes : ℕ) (xs : List A) → SliceOf (λ x. P (f x)) bytes xs
    → SliceOf P bytes (map f xs)
slice-map P f bytes xs h = (each_map P f xs h.0, rw (length-map xs f) h.1)

each-is : {A : Type 0} (P Q : A → Type 0) → ((x : A) → P x → Q x) → (xs : List A) → Each P xs → Each Q xs
each-is P Q f [] h = tt
each-is P Q f (x ∷ xs) h = (f x h.0, each-is P Q f xs h.1)

is-call : (c : rule.Call) → CallOfMachineSize c → IsCall (write c)
is-call (rule.Ask rule.Len) m = tt
is-call (rule.Ask rule.Following) m = tt
is-call (rule.Ask rule.FollowingCourse) m = tt
is-call (rule.Ask (rule.Course line)) m = m.line
is-call (rule.Ask rule.CourseAhead) m = tt
is-call (rule.Ask rule.Crumbs) m = tt
is-call (rule.Ask rule.WayBack) m = tt
is-call (rule.Ask rule.Heading) m = tt
is-call (rule.Ask rule.RouteHome) m = tt
is-call (rule.Ask rule.Guide) m = tt
is-call rule.Reset m = tt
is-call rule.EndReplay m = tt
is-call (rule.SetCourse line points) m =
    (m.line, slice-map _ (λ x. x.lat) 4 points m.lats, slice-map _ (λ x. x.lon) 4 points m.lons)
is-call (rule.SetAutoFollow on) m = tt
is-call (rule.Observe line (Some x) clock) m = (m.line, (m.lats.0.0, m.lons.0.0), m.clock)
is-call (rule.Observe line None clock) m = (m.line, tt, m.clock)
is-call (rule.Replay point clock) m = ((m.lats.0.0, m.lons.0.0), m.clock)
is-call (rule.SetFollowing line on clock) m = (m.line, m.clock)

pub covers : EveryListWritten
covers cs m =
    let room = room_for cs in
    record {
      room = room;
      roomy = roomy cs m.0;
      calls = map refer cs;
      sized = slice-map (λ c. IsCall c.now) refer reference_bytes cs (each-is _ _ is-call cs m.0, m.1);
      says = says room cs (omega arith);
    }
