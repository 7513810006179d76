-- A match, in the whole state. Assumes nothing.
use mathlib.Core.Path.{◌≡◌, sym, ap, ◌∙◌}
use Prim.Native.Nat.{ℕ}
use mathlib.Core.Bool.{Bool}
use mathlib.Core.List.{List}
use lib.Ieee.{Float}
use Rattle.plane.specs.declared.Point.{Point}
use Rattle.crumbs.specs.declared.Crumb.{Crumb}
use Rattle.segments.specs.declared.costs.Nearest.{Nearest}
use Rattle.state.specs.declared.Event.{Event}
use Rattle.state.specs.declared.Follow.{Follow}
use Rattle.state.specs.declared.Course.{Course}
use Rattle.state.specs.declared.Homing.{Homing}
use Rattle.state.specs.State.{State, state_of, with_follow, with_course}
use Rattle.state.specs.Rule.{Done}
use Rattle.matching.specs.declared.followed.Way.{Way}
use Rattle.matching.specs.Followed.{followed, way_on}
use Rattle.matching.specs.Match.{off_now, off_event, due, follow_matched, course_matched}
use Rattle.guide.specs.Guide.{finished}
use Rattle.guide.specs.View.{Tells}
use Rattle.update.specs.Update.{matched_at}

module _ (course : List Crumb) (p : Point) (now : ℕ) (near : Nearest) (h : Homing) (b : List Float) where
  -- the state with the match in it, by what is followed and where on the course
  abbrev matched : Follow → Course → State
  matched m c = with_follow m (with_course c (state_of h b))

  abbrev was : Follow
  was = h.follow

  -- by being off, what is told, and the way on
  abbrev matched_by : Bool → Event → Way → Follow → Course → Done Event
  matched_by off e w m c = finished course p w e (matched m c)

  pub matches : {l : List Crumb} {off : Bool} {e : Event} {w : Way} {m : Follow} {c : Course} {g r : Homing} {told : Event}
      → l ≡ followed course (state_of h b) → off ≡ off_now was.off near.off → e ≡ off_event was.off off (due was now)
      → w ≡ way_on off l near → m ≡ follow_matched near off e now was → c ≡ course_matched near p h.course
      → state_of g b ≡ matched m c → g.trail ≡ h.trail → g.window ≡ h.window
      → Tells (finished course p w e) g b r told → Tells (matched_at course p now near) h b r told
  unfolding matched_at
  matches {l} {off} {e} {w} {m} {c} {g} el eo ee ew em ec is kept stays t =
      let told : Bool → Event = λ o. off_event was.off o (due was now) in
      let by : Bool → Event → List Crumb → Done Event =
      λ o v k. finished course p (way_on o k near) v (matched (follow_matched near o v now was) (course_matched near p h.course)) in
      let whole : matched_at course p now near (state_of h b) ≡ finished course p w e (state_of g b) =
      sym (ap (λ (k : List Crumb). by (off_now was.off near.off) (told (off_now was.off near.off)) k) el)
      ∙ sym (ap (λ (o : Bool). by o (told o) l) eo)
      ∙ sym (ap (λ (v : Event). by off v l) ee)
      ∙ sym (ap (λ (y : Way). finished course p y e (matched (follow_matched near off e now was) (course_matched near p h.course))) ew)
      ∙ sym (ap (λ (f : Follow). finished course p w e (matched f (course_matched near p h.course))) em)
      ∙ sym (ap (λ (k : Course). finished course p w e (matched m k)) ec)
      ∙ sym (ap (λ (s : State). finished course p w e s) is) in
      record {
        told = t.told ∙ sym (ap (λ (d : Done Event). d.answer) whole);
        same = t.same ∙ sym (ap (λ (d : Done Event). d.state) whole);
        trail = t.trail ∙ kept;
        window = t.window ∙ stays;
      }
