-- Following begins by itself, in the whole state. Assumes nothing.
use mathlib.Core.Path.{◌≡◌, sym, ap, ◌∙◌, subst}
use Prim.Native.Nat.{ℕ, ◌≤◌, ◌<◌}
use native.Mathlib.Omega.{arith}
use mathlib.Core.Bool.{Bool, true, false}
use mathlib.Core.List.{List, []}
use lib.ListN.{length}
use lib.Ieee.{Float}
use Rattle.plane.specs.declared.Point.{Point}
use Rattle.crumbs.specs.declared.Crumb.{Crumb}
use Rattle.crumbs.specs.Crumb.{capacity}
use Rattle.trail.specs.declared.Trail.{Trail}
use Rattle.trail.specs.View as trail
use Rattle.state.specs.declared.Line.{Line}
use Rattle.state.specs.declared.Line.TheVariants as lines
use Rattle.state.specs.declared.Event.{Event}
use Rattle.state.specs.declared.Event.TheVariants as event
use Rattle.state.specs.declared.Follow.{Follow}
use Rattle.state.specs.declared.Homing.{Homing}
use Rattle.state.specs.State.{State}
use Rattle.state.specs.Rule.{Done, and_then}
use Rattle.follow.specs.Engage.{engage_at, engage, cut_to, forgotten}
use Rattle.joining.specs.Join.{joining, retracing}
use Rattle.follow.specs.View.{HomingFit, Asks, Changes}
use Rattle.update.specs.Update.{update}
use Rattle.update.specs.View.{Updates}
use Rattle.calls.specs.Fix.{tell_following, add_update, joined_course, turned_back, engaged_back, retraced, may_retrace}
use Rattle.calls.specs.Fix.{joined_or_not}
use Rattle.calls.specs.Fix.{fix_on}
use Rattle.fix.specs.Ready.{Grows, TurnsBack}
use Rattle.fix.proofs.recording.Moving.{updates-after, updates-asked, updates-following, same_len}

course-not : lines.Course ≡ lines.Breadcrumb → ⊥
course-not e = let z : ◌≡◌ {A = ℕ} 0 1 = cc in omega (arith, z)

nothing-not : lines.Nothing ≡ lines.Breadcrumb → ⊥
nothing-not e = let z : ◌≡◌ {A = ℕ} 0 1 = cc in omega (arith, z)

nothing-course : lines.Nothing ≡ lines.Course → ⊥
nothing-course e = let z : ◌≡◌ {A = ℕ} 0 1 = cc in omega (arith, z)

pub idle-grows : (h : Homing) → h.follow.line ≡ lines.Nothing → Grows h
idle-grows h e f = nothing-not (sym e ∙ f)

pub course-grows : (h : Homing) → h.follow.line ≡ lines.Course → Grows h
course-grows h e f = course-not (sym e ∙ f)

-- ---- the course joined
module _ (course : List Crumb) (end now : ℕ) {h r : Homing} (c : Changes (engage_at course lines.Course end now) h r) where
  on-follow : r.follow.line ≡ lines.Course
  unfolding engage_at
  on-follow = ap (λ (s : State). s.follow.line) (c.same [])

  on-segment : r.follow.segment ≡ end
  unfolding engage_at
  on-segment = ap (λ (s : State). s.follow.segment) (c.same [])

  pub on-grows : Grows r
  on-grows = course-grows r on-follow

  pub on-fit : {room n : ℕ} → (1 ≤ end) × (end < n) → HomingFit h room n → HomingFit r room n
  on-fit {room} {n} on f =
      record {
        trail = subst (λ (t : Trail). trail.TrailFit t room) (sym c.trail) f.trail;
        on_trail = λ e. absurd (on-grows e);
        on_course = λ e. (subst (λ (k : ℕ). 1 ≤ k) (sym on-segment) on.0, subst (λ (k : ℕ). k < n) (sym on-segment) on.1);
      }

pub joined-on : (course : List Crumb) (p : Point) (now : ℕ) {h r : Homing} {entry exit : List Float} {t : Homing} {e : Event}
    → Changes (engage_at course lines.Course h.course.join_end now) h r
    → Updates (λ C. add_update C course p now) r entry t e exit
    → Updates (λ C. joined_course C course p now) h entry t event.Following exit
unfolding joined_course
joined-on course p now {h} {r} {entry} c u =
    let C = capacity (length entry) in
    updates-after (λ C. joined_course C course p now) (λ C s. tell_following (add_update C course p now s)) (same_len h r c.trail)
    (sym (ap (λ (s : State). tell_following (add_update C course p now s)) (c.same entry)))
    (updates-following (λ C. add_update C course p now) u)

-- ---- turned round
module _ {h back : Homing} (turns : TurnsBack h back) where
  back-follow : back.follow ≡ h.follow
  unfolding turned_back cut_to forgotten
  back-follow = ap (λ (s : State). s.follow) (turns.same [])

  pub back-idle : h.follow.line ≡ lines.Nothing → back.follow.line ≡ lines.Nothing
  back-idle e = ap (λ (f : Follow). f.line) back-follow ∙ e

  pub back-fit : {room n : ℕ} → h.follow.line ≡ lines.Nothing → HomingFit h room n → HomingFit back room n
  back-fit {room} {n} e f =
      record {
        trail = turns.fit room f.trail;
        on_trail = λ g. absurd (nothing-not (sym (back-idle e) ∙ g));
        on_course = λ g. absurd (nothing-course (sym (back-idle e) ∙ g));
      }

  pub turned_on : (course : List Crumb) (p : Point) (now : ℕ) {entry exit : List Float} {t : Homing} {e : Event}
      → Updates (λ C s. and_then (engage course now s) λ b after. engaged_back b C course p now after) back entry t e exit
      → Updates (λ C. retraced true C course p now) h entry t e exit
  unfolding retraced
  turned_on course p now {entry} u =
      let C = capacity (length entry) in
      let by : ℕ → State → Done Event = λ C s. and_then (engage course now s) λ b after. engaged_back b C course p now after in
      updates-after (λ C. retraced true C course p now) by turns.fewer (sym (ap (λ (s : State). by C s) (turns.same entry))) u

-- by whether what is left leads anywhere
abbrev next : List Crumb → Point → ℕ → Bool → ℕ → State → Done Event
next course p now b C s = engaged_back b C course p now s

module _ (course : List Crumb) (p : Point) (now : ℕ) {h r : Homing} {yes : Bool} {entry exit : List Float} {t : Homing} {e : Event}
    (a : Asks (engage course now) h entry r yes) where
  pub engaged-on : yes ≡ true → Updates (λ C. update C course p now) r entry t e exit
      → Updates (λ C s. and_then (engage course now s) λ b after. engaged_back b C course p now after) h entry t event.Following exit
  unfolding engaged_back
  engaged-on said u =
      updates-asked (engage course now) (next course p now) a said (updates-following (λ C. update C course p now) u)

  pub unengaged-on : yes ≡ false → Updates (λ C. add_update C course p now) r entry t e exit
      → Updates (λ C s. and_then (engage course now s) λ b after. engaged_back b C course p now after) h entry t e exit
  unfolding engaged_back
  unengaged-on said u = updates-asked (engage course now) (next course p now) a said u

-- ---- back along the breadcrumb, or not
abbrev may : List Crumb → Point → ℕ → Bool → ℕ → State → Done Event
may course p now auto C s = may_retrace auto C course p now s

abbrev onward : List Crumb → Point → ℕ → Bool → ℕ → State → Done Event
onward course p now b C s = retraced b C course p now s

module _ (course : List Crumb) (p : Point) (now : ℕ) {h : Homing} {entry exit : List Float} {t : Homing} {e : Event} where
  module _ (auto : h.auto_follow ≡ true) {r : Homing} {yes : Bool} (a : Asks (retracing p) h entry r yes) where
    by : {b : Bool} → yes ≡ b → Updates (onward course p now b) r entry t e exit
        → Updates (may course p now h.auto_follow) h entry t e exit
    unfolding may_retrace
    by said u =
        subst (λ (x : Bool). Updates (may course p now x) h entry t e exit) (sym auto)
        (updates-asked (retracing p) (onward course p now) a said u)

    pub turned_round : yes ≡ true → Updates (λ C. retraced true C course p now) r entry t e exit
        → Updates (may course p now h.auto_follow) h entry t e exit
    turned_round said u = by said u

    pub rode-on : yes ≡ false → Updates (λ C. add_update C course p now) r entry t e exit
        → Updates (may course p now h.auto_follow) h entry t e exit
    unfolding retraced
    rode-on said u = by said u

  pub never-turned : h.auto_follow ≡ false → Updates (λ C. add_update C course p now) h entry t e exit
      → Updates (may course p now h.auto_follow) h entry t e exit
  unfolding may_retrace
  never-turned never u = subst (λ (x : Bool). Updates (may course p now x) h entry t e exit) (sym never) u

-- ---- along the course, or not
abbrev further : List Crumb → Point → ℕ → Bool → ℕ → State → Done Event
further course p now b C s = joined_or_not b C course p now s

module _ (course : List Crumb) (p : Point) (now : ℕ) {h r : Homing} {yes : Bool} {entry exit : List Float} {t : Homing} {e : Event}
    (a : Asks (joining course p) h entry r yes) where
  pub joined-up : yes ≡ true → Updates (λ C. joined_course C course p now) r entry t e exit
      → Updates (λ C. fix_on lines.Nothing C course p now) h entry t e exit
  unfolding fix_on joined_or_not
  joined-up said u = updates-asked (joining course p) (further course p now) a said u

  pub rode-by : yes ≡ false → Updates (λ C. may_retrace r.auto_follow C course p now) r entry t e exit
      → Updates (λ C. fix_on lines.Nothing C course p now) h entry t e exit
  unfolding fix_on joined_or_not
  rode-by said u =
      updates-asked (joining course p) (further course p now) a said (record {
        told = u.told;
        follows = record { same = u.follows.same; fit = u.follows.fit; size = u.follows.size; beyond = u.follows.beyond };
      })

-- ---- by the line that is followed
pub by-line : (on : Line) (course : List Crumb) (p : Point) (now : ℕ) {h : Homing} {entry exit : List Float} {t : Homing} {e : Event}
    → h.follow.line ≡ on → Updates (λ C. fix_on on C course p now) h entry t e exit
    → Updates (λ C. fix_on h.follow.line C course p now) h entry t e exit
by-line on course p now {h} {entry} {exit} {t} {e} told u =
    subst (λ (x : Line). Updates (λ C. fix_on x C course p now) h entry t e exit) (sym told) u
