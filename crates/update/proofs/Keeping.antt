-- An update changes the crumbs held only where the breadcrumb was followed and matched. Assumes nothing.
use mathlib.Core.Path.{◌≡◌, refl, sym, ap, ◌∙◌}
use Prim.Native.Nat.{ℕ}
use mathlib.Core.Bool.{Bool, true, false, ◌&&◌}
use mathlib.Core.List.{List}
use lib.Dec.{leb}
use lib.ListN.{length}
use lib.Ieee.{Float, lt}
use Rattle.plane.specs.declared.Point.{Point}
use Rattle.std.specs.Prelude.{Option, Some, None}
use Rattle.crumbs.specs.declared.Crumb.{Crumb}
use Rattle.crumbs.proofs.Crumbs.{length-crumbs}
use Rattle.segments.specs.declared.costs.Nearest.{Nearest}
use Rattle.matching.specs.Distances.{drop_m}
use Rattle.trail.specs.View.{track}
use Rattle.state.specs.declared.Line.{Line}
use Rattle.state.specs.declared.Line.TheVariants as line
use Rattle.state.specs.declared.Event.{Event}
use Rattle.state.specs.declared.Event.TheVariants as event
use Rattle.state.specs.declared.Homing.{Homing}
use Rattle.state.specs.State.{State, state_of, with_follow, with_arrived}
use Rattle.state.specs.Rule.{Done, done}
use Rattle.follow.specs.Engage.{leave_at, forgotten, stop_nothing, stop_course, stop_breadcrumb, stop_on, stop}
use Rattle.matching.specs.declared.followed.Way.{Way}
use Rattle.matching.specs.Match.{on_line}
use Rattle.matching.specs.Followed.{followed, widened}
use Rattle.guide.specs.Guide.{arrive_m, leave_m, off_cleared, arrival_from, finished, direct}
use Rattle.update.specs.Update.{begun, matched_at, ended_with, at_course_end, matched_to, match_from, follow_on, update}
use Rattle.update.specs.View.{Updates}

-- what an update would cut: the breadcrumb is followed, and a point on it was matched
abbrev pub Loose : State → Type 0
Loose s = s.follow.line ≡ line.Breadcrumb → s.follow.matched ≡ None

abbrev crumbs_after : Done Event → List Crumb
crumbs_after d = d.state.track.crumbs

arrival-crumbs : (was long : Bool) (d : Float) (e : Event) (s : State) → crumbs_after (arrival_from was long d e s) ≡ s.track.crumbs
unfolding arrival_from
arrival-crumbs true long d e s = by (lt leave_m d)
  where
    by : (b : Bool) → crumbs_after (elim b [ true ↦ done e (with_arrived false s) | false ↦ done e s ]) ≡ s.track.crumbs
    by true = refl
    by false = refl
arrival-crumbs false long d e s = by (long && lt d arrive_m)
  where
    by : (b : Bool)
        → crumbs_after (elim b [ true ↦ done event.Arrived (with_arrived true (with_follow (off_cleared s.follow) s)) | false ↦ done e s ])
        ≡ s.track.crumbs
    by true = refl
    by false = refl

finished-crumbs : (course : List Crumb) (p : Point) (w : Way) (e : Event) (s : State)
    → crumbs_after (finished course p w e s) ≡ s.track.crumbs
unfolding finished
finished-crumbs course p w e s = arrival-crumbs s.arrived _ _ e s

direct-crumbs : (course : List Crumb) (p : Point) (s : State) → crumbs_after (direct course p s) ≡ s.track.crumbs
unfolding direct
direct-crumbs course p s = finished-crumbs course p _ _ s

matched-crumbs : (course : List Crumb) (p : Point) (now : ℕ) (near : Nearest) (s : State)
    → crumbs_after (matched_at course p now near s) ≡ s.track.crumbs
unfolding matched_at
matched-crumbs course p now near s = finished-crumbs course p _ _ _

begun-crumbs : (p : Point) (now : ℕ) (s : State) → (begun p now s).track.crumbs ≡ s.track.crumbs
unfolding begun
begun-crumbs p now s = refl

left-crumbs : (C : ℕ) (matched : Option Point) (segment : ℕ) (s : State) → matched ≡ None
    → (leave_at C matched segment s).state.track.crumbs ≡ s.track.crumbs
unfolding leave_at
left-crumbs C matched segment s e = ap (λ (m : Option Point). (leave_at C m segment s).state.track.crumbs) e

stop-crumbs : (on : Line) (C : ℕ) (s : State) → (on ≡ line.Breadcrumb → s.follow.matched ≡ None)
    → (stop_on on C s).state.track.crumbs ≡ s.track.crumbs
unfolding stop_on stop_nothing stop_course stop_breadcrumb forgotten
stop-crumbs line.Nothing C s loose = refl
stop-crumbs line.Course C s loose = refl
stop-crumbs line.Breadcrumb C s loose = left-crumbs C s.follow.matched s.follow.segment _ (loose refl)

module _ (C : ℕ) (course : List Crumb) (p : Point) (now : ℕ) (s : State) (loose : Loose s) where
  ended-crumbs : (e : Event) → crumbs_after (ended_with e C course p now s) ≡ s.track.crumbs
  unfolding ended_with stop
  ended-crumbs e = direct-crumbs course p _ ∙ begun-crumbs p now _ ∙ stop-crumbs s.follow.line C s loose

  matched-to-crumbs : (near : Nearest) → crumbs_after (matched_to C course p now near s) ≡ s.track.crumbs
  unfolding matched_to
  matched-to-crumbs near = by (lt drop_m near.off) (at_course_end s near)
    where
      other : (b : Bool) → crumbs_after
          (elim b [ true ↦ ended_with event.CourseEnd C course p now s | false ↦ matched_at course p now near s ]) ≡ s.track.crumbs
      other true = ended-crumbs event.CourseEnd
      other false = matched-crumbs course p now near s

      by : (a b : Bool)
          → crumbs_after (elim a [
            | true ↦ ended_with event.Dropped C course p now s
            | false ↦ elim b [ true ↦ ended_with event.CourseEnd C course p now s | false ↦ matched_at course p now near s ]
          ]) ≡ s.track.crumbs
      by true b = ended-crumbs event.Dropped
      by false b = other b

  match-crumbs : (best : Option Nearest) → crumbs_after (match_from best C course p now s) ≡ s.track.crumbs
  unfolding match_from
  match-crumbs None = refl
  match-crumbs (Some near) = matched-to-crumbs (widened course p near s)

  follow-crumbs : crumbs_after (follow_on C course p now s) ≡ s.track.crumbs
  unfolding follow_on
  follow-crumbs = match-crumbs _

module _ (C : ℕ) (course : List Crumb) (p : Point) (now : ℕ) (s : State) (loose : Loose s) where
  pub update-crumbs : crumbs_after (update C course p now s) ≡ s.track.crumbs
  unfolding update begun
  update-crumbs = by (on_line s.follow.line && leb 2 (length (followed course s)))
    where
      by : (b : Bool) → crumbs_after (elim b [ true ↦ follow_on C course p now (begun p now s) | false ↦ direct course p (begun p now s) ])
          ≡ s.track.crumbs
      by true = follow-crumbs C course p now (begun p now s) loose
      by false = direct-crumbs course p (begun p now s)

-- ---- how many crumbs are held
pub len-held : (h : Homing) (b : List Float) → length (state_of h b).track.crumbs ≡ h.trail.len
unfolding track
len-held h b = length-crumbs h.trail.len b

pub update-len : (course : List Crumb) (p : Point) (now : ℕ) (h : Homing) (entry : List Float) (r : Homing) (e : Event) (exit : List Float)
    → Loose (state_of h entry)
    → Updates (λ C. update C course p now) h entry r e exit → r.trail.len ≡ h.trail.len
update-len course p now h entry r e exit loose u =
    sym (len-held r exit)
    ∙ ap (λ (s : State). length s.track.crumbs) u.follows.same
    ∙ ap (λ (l : List Crumb). length l) (update-crumbs _ course p now (state_of h entry) loose)
    ∙ len-held h entry
