-- The guide brought up to date: what is matched is a segment, and a following that ends is stopped. Assumes nothing.
use Prim.Native.Nat.{ℕ, ◌-◌, ◌≤◌}
use mathlib.Core.Path.{◌≡◌, refl}
use mathlib.Core.Bool.{Bool, true, false, ◌&&◌, ◌||◌}
use mathlib.Core.List.{List}
use native.Mathlib.Omega.{arith}
use lib.Dec.{leb}
use lib.ListN.{length}
use lib.Ieee.{Float, lt}
use Rattle.plane.specs.declared.Point.{Point}
use Rattle.crumbs.specs.declared.Crumb.{Crumb}
use Rattle.segments.specs.declared.costs.Nearest.{Nearest}
use Rattle.std.specs.Prelude.{Option, Some, None}
use Rattle.search.specs.declared.Range.{Range}
use Rattle.matching.specs.Distances.{off_m, drop_m}
use Rattle.trail.proofs.Theorems.{holding}
use Rattle.search.proofs.Theorems.{breadcrumb-met}
use Rattle.search.proofs.course_match.Theorems.{course-met}
use Rattle.state.specs.declared.Line.{Line}
use Rattle.state.specs.declared.Line.TheVariants as line
use Rattle.state.specs.declared.Event.{Event}
use Rattle.state.specs.declared.Event.TheVariants as event
use Rattle.state.specs.State.{State, with_follow, with_arrived}
use Rattle.state.specs.Rule.{Done, done}
use Rattle.matching.specs.declared.followed.Way.{Way}
use Rattle.matching.specs.Match.{on_line, around_segment, nearer, follow_matched}
use Rattle.matching.specs.Followed.{followed, progress, nearest, widened}
use Rattle.update.specs.Update.{begun, matched_at, ended_with, at_course_end, matched_to, match_from, follow_on, update}
use Rattle.guide.specs.Guide.{off_cleared, arrival_from, finished, direct, leave_m, arrive_m}
use Rattle.journal.proofs.Sound.{Holds, Good, Quiet, still, quiet, then, either}
use Rattle.journal.proofs.Following.{stop-good}

-- ---- what is found is a segment
nearest-end : (l : Line) (course : List Crumb) (p : Point) (ends : Range) (s : State) → 1 ≤ ends.from → (near : Nearest)
    → nearest l course p ends s ≡ Some near → 1 ≤ near.end
unfolding nearest
nearest-end line.Course course p ends s h near e = omega (arith, (course-met course p ends h (progress s) near e).from)
nearest-end line.Nothing course p ends s h near e = omega (arith, (breadcrumb-met s.track.crumbs p ends near e).from)
nearest-end line.Breadcrumb course p ends s h near e = omega (arith, (breadcrumb-met s.track.crumbs p ends near e).from)

around-from : (segment len : ℕ) → 1 ≤ (around_segment segment len).from
unfolding around_segment
around-from segment len = omega arith

nearer-end : (near : Nearest) (best : Option Nearest) → 1 ≤ near.end → ((other : Nearest) → best ≡ Some other → 1 ≤ other.end)
    → 1 ≤ (nearer near best).end
unfolding nearer
nearer-end near None h k = h
nearer-end near (Some other) h k = by (lt other.off near.off)
  where
    by : (b : Bool) → 1 ≤ (elim b as (λ _. Nearest) [ true ↦ other | false ↦ near ]).end
    by true = k other refl
    by false = h

widened-end : (course : List Crumb) (p : Point) (near : Nearest) (s : State) → 1 ≤ near.end → 1 ≤ (widened course p near s).end
unfolding widened
widened-end course p near s h = by (s.follow.off || lt off_m near.off)
  where
    whole : Range
    whole = record { from = 1; to = length (followed course s) - 1 }

    by : (b : Bool) → 1 ≤ (elim b as (λ _. Nearest) [ true ↦ nearer near (nearest s.follow.line course p whole s) | false ↦ near ]).end
    by true = nearer-end near _ h (nearest-end s.follow.line course p whole s (omega arith))
    by false = h

-- ---- the guide made
module _ {C : ℕ} where
  arrival : (was long : Bool) (straight : Float) (e : Event) (s : State) → Holds C s
      → Quiet C (holding s.track) (arrival_from was long straight e s).state
  unfolding arrival_from off_cleared
  arrival true long straight e s h = by (lt leave_m straight)
    where
      by : (b : Bool)
          → Quiet C (holding s.track) (elim b as (λ _. Done Event) [ true ↦ done e (with_arrived false s) | false ↦ done e s ]).state
      by true = record { same = refl; sound = h }
      by false = record { same = refl; sound = h }
  arrival false long straight e s h = by (long && lt straight arrive_m)
    where
      by : (b : Bool)
          → Quiet C (holding s.track)
          (elim b as (λ _. Done Event) [
            | true ↦ done event.Arrived (with_arrived true (with_follow (off_cleared s.follow) s))
            | false ↦ done e s
          ]).state
      by true = record { same = refl; sound = record { track = h.track; segment = h.segment; back = h.back } }
      by false = record { same = refl; sound = h }

  finished-good : (course : List Crumb) (p : Point) (w : Way) (e : Event) → Good C (finished course p w e)
  unfolding finished
  finished-good course p w e s h =
      let q = arrival s.arrived _ _ e s h in
      quiet _ (record { same = q.same; sound = q.sound })

  direct_good : (course : List Crumb) (p : Point) → Good C (direct course p)
  unfolding direct
  direct_good course p s h = finished-good course p _ event.Nothing s h

  matched-good : (course : List Crumb) (p : Point) (now : ℕ) (near : Nearest) → 1 ≤ near.end → Good C (matched_at course p now near)
  unfolding matched_at follow_matched
  matched-good course p now near some s h =
      finished-good course p _ _ _ (record { track = h.track; segment = λ _. some; back = h.back })

-- ---- the guide after a fix
module _ (C : ℕ) (least : 3 ≤ C) (course : List Crumb) (p : Point) (now : ℕ) where
  ended-good : (e : Event) → Good C (ended_with e C course p now)
  unfolding ended_with begun
  ended-good e s h = then (stop-good C least s h) λ _ after k. then (direct_good course p (begun p now after) k) λ _ last l. still e last l

  matched_to_lem : (near : Nearest) → 1 ≤ near.end → Good C (matched_to C course p now near)
  unfolding matched_to
  matched_to_lem near some s h =
      either (lt drop_m near.off) (ended-good event.Dropped s h)
      (either (at_course_end s near) (ended-good event.CourseEnd s h) (matched-good course p now near some s h))

  match-from : (best : Option Nearest) → ((near : Nearest) → best ≡ Some near → 1 ≤ near.end) → Good C (match_from best C course p now)
  unfolding match_from
  match-from None found s h = still event.Nothing s h
  match-from (Some near) found s h = matched_to_lem (widened course p near s) (widened-end course p near s (found near refl)) s h

  follow-good : Good C (follow_on C course p now)
  unfolding follow_on
  follow-good s h =
      let ends = around_segment s.follow.segment (length (followed course s)) in
      match-from _ (nearest-end s.follow.line course p ends s (around-from _ _)) s h

  pub update-good : Good C (update C course p now)
  unfolding update begun
  update-good s h =
      let t = begun p now s in
      either (on_line t.follow.line && leb 2 (length (followed course t))) (follow-good t h) (direct_good course p t h)
