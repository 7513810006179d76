-- Following begins by itself: what joining, retracing and engaging leave of a state. Assumes nothing.
use mathlib.Core.Path.{◌≡◌, refl, sym, ap, ◌∙◌, subst}
use Prim.Native.Nat.{ℕ, ◌+◌, ◌-◌, ◌≤◌, ◌<◌}
use native.Mathlib.Omega.{arith}
use mathlib.Core.Bool.{Bool, true, false, cond, true≢false, false≢true}
use mathlib.Core.List.{List}
use lib.Dec.{leb, eqb}
use lib.ListN.{length}
use lib.Ieee.{Float, le}
use borrow.Author.Tests.{eqb-false}
use Rattle.binary32.specs.Limits.{plus_zero}
use Rattle.plane.specs.declared.Point.{Point}
use Rattle.std.specs.Prelude.{Option, Some, None, ℕ}
use Rattle.crumbs.specs.declared.Crumb.{Crumb}
use Rattle.crumbs.specs.Crumb.{capacity, crumbs}
use Rattle.crumbs.proofs.Crumbs.{length-crumbs}
use Rattle.search.specs.Course.{joined}
use Rattle.search.proofs.Theorems.{joined_end}
use Rattle.trail.specs.declared.Trail.{Trail}
use Rattle.trail.specs.Trail.{retrace_fixes, Track}
use Rattle.trail.specs.View.{track}
use Rattle.trail.specs.View as trail
use Rattle.state.specs.declared.Line.TheVariants as lines
use Rattle.state.specs.declared.Follow.{Follow}
use Rattle.state.specs.declared.Homing.{Homing}
use Rattle.state.specs.State.{State, state_of, with_track}
use Rattle.state.specs.Rule.{Done, done}
use Rattle.follow.specs.Parts.{leads}
use Rattle.follow.specs.Engage.{engage_at, engage}
use Rattle.joining.specs.Join.{joined_to, join_on, may_join, join_with, joining, with_retrace, retracing}
use Rattle.joining.specs.Retrace.{rides_back, len_before}
use Rattle.follow.specs.View.{HomingFit, SameHeld, Asks}
use Rattle.follow.proofs.Engaging.{leads-some}
use Rattle.joining.proofs.Counting.{rode-back, rode-on}
use Rattle.fix.specs.Ready.{Ready}

-- a trail that holds the same fits the same
pub held-fit : (t r : Trail) (size : ℕ) → SameHeld t r → trail.TrailFit t size → trail.TrailFit r size
held-fit t r size e f =
    record {
      whole_long = f.whole_long;
      least = f.least;
      most = f.most;
      held = subst (λ (n : ℕ). n ≤ capacity size) (sym e.len) f.held;
      waiting = subst (λ (n : ℕ). n ≤ 48) (sym e.waiting) f.waiting;
      tolerance = ap (λ (x : Float). le plus_zero x) e.tolerance ∙ f.tolerance;
    }

other : lines.Breadcrumb ≡ lines.Course → ⊥
other e = let z : ◌≡◌ {A = ℕ} 0 1 = cc in omega (arith, z)

pub fit-held : {h r : Homing} {room n : ℕ} → HomingFit h room n → SameHeld h.trail r.trail → r.follow ≡ h.follow → HomingFit r room n
fit-held {h} {r} {room} {n} f t w =
    record {
      trail = held-fit h.trail r.trail room t f.trail;
      on_trail = λ e.
          let on = f.on_trail (ap (λ (x : Follow). x.line) (sym w) ∙ e) in (
            subst (λ (x : Follow). 1 ≤ x.segment) (sym w) on.0,
            subst (λ (n : ℕ). r.follow.segment < n) (sym t.len) (subst (λ (x : Follow). x.segment < h.trail.len) (sym w) on.1),
          );
      on_course = λ e.
          let on = f.on_course (ap (λ (x : Follow). x.line) (sym w) ∙ e) in (
            subst (λ (x : Follow). 1 ≤ x.segment) (sym w) on.0,
            subst (λ (x : Follow). x.segment < n) (sym w) on.1,
          );
    }

-- ---- along the course
module _ (course : List Crumb) (p : Point) where
  on-course : (j : Option ℕ) (s : State) → (join_on j s).answer ≡ true → ((end : ℕ) → j ≡ Some end → (1 ≤ end) × (end < length course))
      → (1 ≤ (join_on j s).state.course.join_end) × ((join_on j s).state.course.join_end < length course)
  unfolding join_on joined_to
  on-course None s said on = absurd (false≢true said)
  on-course (Some end) s said on = on end refl

  with-heading : (heading : Option ℕ) (s : State) (end : ℕ) → join_with heading course p s ≡ Some end → (1 ≤ end) × (end < length course)
  unfolding join_with
  with-heading None s end e = let z : ◌≡◌ {A = ℕ} 0 1 = cc in absurd (omega arith)
  with-heading (Some heading) s end e = by (may_join course s) e
    where
      by : (b : Bool) → cond b (joined course p heading) None ≡ Some end → (1 ≤ end) × (end < length course)
      by true f = joined_end course p heading end f
      by false f = let z : ◌≡◌ {A = ℕ} 0 1 = cc in absurd (omega arith)

  joins-on : (s : State) → (joining course p s).answer ≡ true
      → (1 ≤ (joining course p s).state.course.join_end) × ((joining course p s).state.course.join_end < length course)
  unfolding joining
  joins-on s said = on-course (join_with s.motion.heading course p s) s said (λ end e. with-heading s.motion.heading s end e)

  join-follow : (j : Option ℕ) (s : State) → (join_on j s).state.follow ≡ s.follow
  unfolding join_on
  join-follow None s = refl
  join-follow (Some end) s = refl

  pub joining-follow : (s : State) → (joining course p s).state.follow ≡ s.follow
  unfolding joining
  joining-follow s = join-follow _ s

  join-track : (j : Option ℕ) (s : State) → (join_on j s).state.track ≡ s.track
  unfolding join_on
  join-track None s = refl
  join-track (Some end) s = refl

  pub joining-track : (s : State) → (joining course p s).state.track ≡ s.track
  unfolding joining
  joining-track s = join-track _ s

module _ (course : List Crumb) (p : Point) {h : Homing} {b : List Float} {r : Homing} {yes : Bool}
    (a : Asks (joining course p) h b r yes) where
  pub join-follows : r.follow ≡ h.follow
  join-follows = ap (λ (s : State). s.follow) a.same ∙ joining-follow course p (state_of h b)

  pub joined_at : yes ≡ true → (1 ≤ r.course.join_end) × (r.course.join_end < length course)
  joined_at said =
      let on = joins-on course p (state_of h b) (sym a.answered ∙ said) in
      let end : r.course.join_end ≡ (joining course p (state_of h b)).state.course.join_end =
      ap (λ (s : State). s.course.join_end) a.same in (
        subst (λ (n : ℕ). 1 ≤ n) (sym end) on.0,
        subst (λ (n : ℕ). n < length course) (sym end) on.1,
      )

  join-retrace : r.trail.retrace ≡ h.trail.retrace
  unfolding track
  join-retrace =
      ap (λ (s : State). s.track.retrace) a.same ∙ ap (λ (t : Track). t.retrace) (joining-track course p (state_of h b))

  join-retrace-len : r.trail.retrace_len ≡ h.trail.retrace_len
  unfolding track
  join-retrace-len = ap (λ (s : State). s.track.retrace_len) a.same
      ∙ ap (λ (t : Track). t.retrace_len) (joining-track course p (state_of h b))

  pub join-ready : {n : ℕ} → Ready h (length b) n → Ready r (length b) n
  join-ready q =
      record {
        fit = fit-held q.fit a.held join-follows;
        retrace = subst (λ (n : ℕ). n < retrace_fixes) (sym join-retrace) q.retrace;
        back = λ never.
            subst (λ (n : ℕ). n ≤ r.trail.len) (sym join-retrace-len)
            (subst (λ (n : ℕ). h.trail.retrace_len ≤ n) (sym a.held.len) (q.back (λ z. never (join-retrace ∙ z))));
      }

-- ---- back along the breadcrumb
before-few : (t : Track) → ((t.retrace ≡ 0 → ⊥) → t.retrace_len ≤ length t.crumbs) → len_before t ≤ length t.crumbs
unfolding len_before
before-few t back = by (eqb t.retrace 0) refl
  where
    by : (b : Bool) → eqb t.retrace 0 ≡ b → cond b (length t.crumbs) t.retrace_len ≤ length t.crumbs
    by true e = omega arith
    by false e = back (eqb-false _ _ e)

module _ (p : Point) (s : State) where
  by-riding : (P : Done Bool → Type 0)
      → P (done (leb retrace_fixes (s.track.retrace + 1))
      (with_track (with_retrace (s.track.retrace + 1) (len_before s.track) s.track) s))
      → P (done false (with_track (with_retrace 0 s.track.retrace_len s.track) s)) → P (retracing p s)
  by-riding P back on = pick (rides_back s.motion.heading s.track.crumbs p) refl
    where
      pick : (b : Bool) → rides_back s.motion.heading s.track.crumbs p ≡ b → P (retracing p s)
      pick true e = subst P (sym (rode-back p s e)) back
      pick false e = subst P (sym (rode-on p s e)) on

  retracing-follow : (retracing p s).state.follow ≡ s.follow
  retracing-follow = by-riding (λ d. d.state.follow ≡ s.follow) refl refl

  retracing-few : ((s.track.retrace ≡ 0 → ⊥) → s.track.retrace_len ≤ length s.track.crumbs) → (retracing p s).answer ≡ true
      → (retracing p s).state.track.retrace_len ≤ length s.track.crumbs
  unfolding with_retrace
  retracing-few back =
      by-riding (λ d. d.answer ≡ true → d.state.track.retrace_len ≤ length s.track.crumbs) (λ _. before-few s.track back)
      (λ e. absurd (false≢true e))

module _ (p : Point) {h : Homing} {b : List Float} {r : Homing} {yes : Bool} (a : Asks (retracing p) h b r yes) where
  pub retrace-follows : r.follow ≡ h.follow
  retrace-follows = ap (λ (s : State). s.follow) a.same ∙ retracing-follow p (state_of h b)

  pub retrace-fit : {n : ℕ} → HomingFit h (length b) n → HomingFit r (length b) n
  retrace-fit f = fit-held f a.held retrace-follows

  pub retrace-few : yes ≡ true → ((h.trail.retrace ≡ 0 → ⊥) → h.trail.retrace_len ≤ h.trail.len) → r.trail.retrace_len ≤ r.trail.len
  unfolding track
  retrace-few said back =
      let long = length-crumbs h.trail.len b in
      let few = retracing-few p (state_of h b) (λ never. subst (λ (n : ℕ). h.trail.retrace_len ≤ n) (sym long) (back never))
      (sym a.answered ∙ said) in
      let is : r.trail.retrace_len ≡ (retracing p (state_of h b)).state.track.retrace_len =
      ap (λ (s : State). s.track.retrace_len) a.same in
      subst (λ (n : ℕ). r.trail.retrace_len ≤ n) (sym a.held.len)
      (subst (λ (n : ℕ). r.trail.retrace_len ≤ n) long
      (subst (λ (n : ℕ). n ≤ length (state_of h b).track.crumbs) (sym is) few))

-- ---- following the breadcrumb
module _ (course : List Crumb) (now : ℕ) (s : State) where
  abbrev engaged : State
  engaged = engage_at course lines.Breadcrumb (length s.track.crumbs - 1) now s

  by-leading : (P : Done Bool → Type 0) → (leads s.track.crumbs ≡ true → P (done true engaged)) → P (done false s)
      → P (engage course now s)
  unfolding engage
  by-leading P said never = pick (leads s.track.crumbs) refl
    where
      pick : (b : Bool) → leads s.track.crumbs ≡ b → P (cond b (done true engaged) (done false s))
      pick true e = said e
      pick false e = never

  engage-yes : (engage course now s).answer ≡ true → (leads s.track.crumbs ≡ true) × ((engage course now s).state ≡ engaged)
  engage-yes = by-leading (λ d. d.answer ≡ true → (leads s.track.crumbs ≡ true) × (d.state ≡ engaged)) (λ e _. (e, refl))
      (λ e. absurd (false≢true e))

  engage-no : (engage course now s).answer ≡ false → (engage course now s).state ≡ s
  engage-no = by-leading (λ d. d.answer ≡ false → d.state ≡ s) (λ _ e. absurd (true≢false e)) (λ _. refl)

two-less : (n : ℕ) → 2 ≤ n → (1 ≤ n - 1) × (n - 1 < n)
two-less n h = (omega (arith, h), omega (arith, h))

module _ (course : List Crumb) (now : ℕ) {h : Homing} {b : List Float} {r : Homing} {yes : Bool}
    (a : Asks (engage course now) h b r yes) where
  pub engaged-fit : {n : ℕ} → yes ≡ true → trail.TrailFit h.trail (length b) → HomingFit r (length b) n
  unfolding engage_at track
  engaged-fit said f =
      let on = engage-yes course now (state_of h b) (sym a.answered ∙ said) in
      let two = leads-some h.trail.len b on.0 in
      let is : r.follow ≡ (engage_at course lines.Breadcrumb (length (crumbs h.trail.len b) - 1) now (state_of h b)).follow =
      ap (λ (s : State). s.follow) (a.same ∙ on.1) in
      let segment : r.follow.segment ≡ h.trail.len - 1 =
      ap (λ (x : Follow). x.segment) is ∙ ap (λ (n : ℕ). n - 1) (length-crumbs h.trail.len b) in
      let lined : r.follow.line ≡ lines.Breadcrumb = ap (λ (x : Follow). x.line) is in
      let bounds = two-less h.trail.len two in
      record {
        trail = held-fit h.trail r.trail (length b) a.held f;
        on_trail = λ _. (
          subst (λ (n : ℕ). 1 ≤ n) (sym segment) bounds.0,
          subst (λ (n : ℕ). r.follow.segment < n) (sym a.held.len)
              (subst (λ (n : ℕ). n < h.trail.len) (sym segment) bounds.1),
        );
        on_course = λ e. absurd (other (sym lined ∙ e));
      }

  pub unengaged-follow : yes ≡ false → r.follow ≡ h.follow
  unengaged-follow never =
      ap (λ (s : State). s.follow) (a.same ∙ engage-no course now (state_of h b) (sym a.answered ∙ never))

  pub unengaged-fit : {n : ℕ} → yes ≡ false → HomingFit h (length b) n → HomingFit r (length b) n
  unengaged-fit never f = fit-held f a.held (unengaged-follow never)
