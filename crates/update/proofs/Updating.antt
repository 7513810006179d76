-- What becomes of a following, in the whole state. Assumes nothing.
use mathlib.Core.Path.{◌≡◌, refl, sym, ap, ◌∙◌, subst}
use Prim.Native.Nat.{ℕ, ◌≤◌, ◌<◌, max}
use mathlib.Core.Bool.{true}
use mathlib.Core.List.{List, []}
use lib.ListN.{length}
use lib.Ieee.{Float}
use Rattle.plane.specs.declared.Point.{Point}
use Rattle.crumbs.specs.declared.Crumb.{Crumb}
use Rattle.crumbs.specs.Crumb.{capacity, crumbs, behind}
use Rattle.segments.specs.declared.costs.Nearest.{Nearest}
use Rattle.trail.specs.declared.Trail.{Trail}
use Rattle.trail.specs.View as trail
use Rattle.trail.specs.View.{track}
use Rattle.state.specs.declared.Event.{Event}
use Rattle.state.specs.declared.Event.TheVariants as event
use Rattle.state.specs.declared.Follow.{Follow}
use Rattle.state.specs.declared.Homing.{Homing}
use Rattle.state.specs.State.{State, state_of}
use Rattle.state.specs.Rule.{Done, done}
use Rattle.follow.specs.View.{HomingFit, Changes, Follows}
use Rattle.matching.specs.declared.followed.Followed.{Followed}
use Rattle.matching.specs.Match.{on_line}
use Rattle.matching.specs.Followed.{followed, followed_on}
use Rattle.matching.specs.View.{IsFollowedBy, IsFollowed}
use native.Mathlib.Omega.{arith}
use Rattle.crumbs.proofs.Crumbs.{length-crumbs}
use Rattle.matching.proofs.followed.Lines.{last_on}
use Rattle.guide.specs.Guide.{direct}
use Rattle.guide.specs.View.{Tells}
use Rattle.update.specs.declared.Outcome.{Outcome}
use Rattle.update.specs.declared.Outcome.TheVariants.{Straight, Stays, Ends, GoesOn}
use Rattle.update.specs.Update.{begun, matched_at, ended_with, update}
use Rattle.update.specs.View.{Updates, comes_to, MatchedIn, Becomes}

-- what fits goes by the trail and the following alone
pub fit_same : (h r : Homing) (room n : ℕ) → HomingFit h room n → r.trail ≡ h.trail → r.follow ≡ h.follow → HomingFit r room n
fit_same h r room n f t w =
    record {
      trail = subst (λ (x : Trail). trail.TrailFit x room) (sym t) f.trail;
      on_trail = λ e.
          let on = f.on_trail (ap (λ (x : Follow). x.line) (sym w) ∙ e) in (
            subst (λ (x : Follow). 1 ≤ x.segment) (sym w) on.0,
            subst (λ (x : Trail). r.follow.segment < x.len) (sym t) (subst (λ (x : Follow). x.segment < h.trail.len) (sym w) on.1),
          );
      on_course = λ e.
          let on = f.on_course (ap (λ (x : Follow). x.line) (sym w) ∙ e) in (
            subst (λ (x : Follow). 1 ≤ x.segment) (sym w) on.0,
            subst (λ (x : Follow). x.segment < n) (sym w) on.1,
          );
    }

-- a rule that is another at this state
pub updates-as : (rule other : ℕ → State → Done Event) (h : Homing) (entry : List Float) (r : Homing) (e : Event) (exit : List Float)
    → rule (capacity (length entry)) (state_of h entry) ≡ other (capacity (length entry)) (state_of h entry)
    → Updates other h entry r e exit → Updates rule h entry r e exit
updates-as rule other h entry r e exit is u =
    record {
      told = u.told ∙ sym (ap (λ (d : Done Event). d.answer) is);
      follows =
          record {
            same = u.follows.same ∙ sym (ap (λ (d : Done Event). d.state) is);
            fit = u.follows.fit;
            size = u.follows.size;
            beyond = u.follows.beyond;
          };
    }

-- one that keeps no crumb
pub updates-still : (rule : State → Done Event) (h : Homing) (b : List Float) (r : Homing) (e : Event) → trail.TrailFit h.trail (length b)
    → Tells rule h b r e → Updates (λ C. rule) h b r e b
updates-still rule h b r e f t =
    record {
      told = t.told;
      follows =
          record {
            same = t.same;
            fit = subst (λ (x : Trail). trail.TrailFit x (length b)) (sym t.trail) f;
            size = refl;
            beyond = refl;
          };
    }

-- what came before left the trail alone
pub follows-from : {A : Type 0} (before : State → State) (rule : ℕ → State → Done A) (h g : Homing) (entry : List Float) (r : Homing)
    (exit : List Float) → Changes before h g
    → Follows rule g entry r exit → Follows (λ C s. rule C (before s)) h entry r exit
follows-from before rule h g entry r exit c f =
    let Beyond : Trail → Type 0 = λ x. behind (max x.len r.trail.len) exit ≡ behind (max x.len r.trail.len) entry in
    record {
      same = f.same ∙ ap (λ (s : State). (rule (capacity (length entry)) s).state) (c.same entry);
      fit = f.fit;
      size = f.size;
      beyond = subst Beyond c.trail f.beyond;
    }

pub updates-from : (before : State → State) (rule : ℕ → State → Done Event) (h g : Homing) (entry : List Float) (r : Homing) (e : Event)
    (exit : List Float) → Changes before h g
    → Updates rule g entry r e exit → Updates (λ C s. rule C (before s)) h entry r e exit
updates-from before rule h g entry r e exit c u =
    record {
      told = u.told ∙ ap (λ (s : State). (rule (capacity (length entry)) s).answer) (c.same entry);
      follows = follows-from before rule h g entry r exit c u.follows;
    }

pub tells-from : (before : State → State) (rule : State → Done Event) (h g : Homing) (b : List Float) (r : Homing) (e : Event)
    → Changes before h g → Tells rule g b r e → Tells (λ s. rule (before s)) h b r e
tells-from before rule h g b r e c t =
    record {
      told = t.told ∙ ap (λ (s : State). (rule s).answer) (c.same b);
      same = t.same ∙ ap (λ (s : State). (rule s).state) (c.same b);
      trail = t.trail ∙ c.trail;
      window = t.window ∙ c.window;
    }

-- ---- the state after an update begins fits as it did
module _ (p : Point) (now : ℕ) (h r : Homing) (c : Changes (begun p now) h r) where
  follow-kept : r.follow ≡ h.follow
  unfolding begun
  follow-kept = ap (λ (s : State). s.follow) (c.same [])

  pub course-kept : r.course ≡ h.course
  unfolding begun
  course-kept = ap (λ (s : State). s.course) (c.same [])

  pub fit-begun : {room n : ℕ} → HomingFit h room n → HomingFit r room n
  fit-begun {room} {n} f = fit_same h r room n f c.trail follow-kept

-- ---- what an update reads of a state
module _ (h : Homing) (b : List Float) {held placed : List Crumb} (H : held ≡ crumbs h.trail.len b) where
  pub followed-here : {f : Followed} → IsFollowedBy h.follow h.course h.motion.heading placed held f → IsFollowed f placed (state_of h b)
  unfolding track
  followed-here {f} i =
      record {
        parts =
            record {
              on = i.on;
              line = i.line ∙ ap (followed_on h.follow.line placed) H;
              segment = i.segment;
              off = i.off;
              was = i.was;
            };
      }

  pub last-here : {room : ℕ} → HomingFit h room (length placed) → {f : Followed}
      → IsFollowedBy h.follow h.course h.motion.heading placed held f → on_line f.on ≡ true → f.segment < length f.line.now
  last-here fit {f} i l =
      let n : length held ≡ h.trail.len = ap (λ (m : List Crumb). length m) H ∙ length-crumbs h.trail.len b in
      let on : h.follow.segment < length (followed_on h.follow.line placed held) =
      last_on h.follow.segment placed held h.follow.line (sym (ap on_line i.on) ∙ l)
      (λ e. let v = fit.on_trail e in (v.0, omega (arith, v.1))) fit.on_course in
      let long : length f.line.now ≡ length (followed_on h.follow.line placed held) = ap (λ (m : List Crumb). length m) i.line in
      let at = i.segment in
      omega arith

-- what is followed once an update has begun was before
before-followed : {f : Followed} {course : List Crumb} (p : Point) (now : ℕ) {s : State} → IsFollowed f course (begun p now s)
    → IsFollowed f course s
unfolding begun
before-followed p now i = record { parts = i.parts }

-- ---- by what becomes of the following, behind what every update begins with
module _ {h n : Homing} (b : List Float) {course : List Crumb} (p : Point) (now : ℕ) (c : Changes (begun p now) h n)
    {f : Followed} (i : IsFollowed f course (state_of n b)) {o : Outcome} (becomes : Becomes f p o) where
  followed-before : IsFollowed f course (state_of h b)
  followed-before = before-followed p now (subst (λ (s : State). IsFollowed f course s) (c.same b) i)

  is : {x : Outcome} → o ≡ x
      → update (capacity (length b)) course p now (state_of h b)
      ≡ comes_to x (capacity (length b)) course p now (begun p now (state_of h b))
  is told =
      becomes.does _ _ followed-before (capacity (length b)) now
      ∙ ap (λ (x : Outcome). comes_to x (capacity (length b)) course p now (begun p now (state_of h b))) told

  pub match-on : {near : Nearest} → o ≡ GoesOn near → (1 ≤ near.end) × (near.end < length f.line.now)
  match-on told = subst (λ (x : Outcome). MatchedIn (length f.line.now) x) told (becomes.matched _ _ i)

  pub line-on : f.line.now ≡ followed course (state_of n b)
  line-on = i.parts.line

  -- what comes next keeps no crumb
  shows : (next : State → Done Event) → trail.TrailFit h.trail (length b)
      → update (capacity (length b)) course p now (state_of h b) ≡ next (begun p now (state_of h b))
      → {r : Homing} {e : Event} → Tells next n b r e → Updates (λ C. update C course p now) h b r e b
  shows next fit told {r} {e} t =
      let onward : State → Done Event = λ s. next (begun p now s) in
      updates-as (λ C. update C course p now) (λ C. onward) h b r e b told
      (updates-still onward h b r e fit (tells-from (begun p now) next h n b r e c t))

  pub goes-straight : trail.TrailFit h.trail (length b) → o ≡ Straight → {r : Homing} {e : Event} → Tells (direct course p) n b r e
      → Updates (λ C. update C course p now) h b r e b
  unfolding comes_to
  goes-straight fit told t = shows (direct course p) fit (is told) t

  pub stays : trail.TrailFit h.trail (length b) → o ≡ Stays → Updates (λ C. update C course p now) h b n event.Nothing b
  unfolding comes_to
  stays fit told = shows (done event.Nothing) fit (is told) (record { told = refl; same = refl; trail = refl; window = refl })

  pub goes_on : trail.TrailFit h.trail (length b) → {near : Nearest} → o ≡ GoesOn near → {r : Homing} {e : Event}
      → Tells (matched_at course p now near) n b r e → Updates (λ C. update C course p now) h b r e b
  unfolding comes_to
  goes_on fit {near} told t = shows (matched_at course p now near) fit (is told) t

  pub ends : {event : Event} → o ≡ Ends event → {r : Homing} {e : Event} {exit : List Float}
      → Updates (λ C. ended_with event C course p now) n b r e exit → Updates (λ C. update C course p now) h b r e exit
  unfolding comes_to
  ends {event} told {r} {e} {exit} u =
      let ending : ℕ → State → Done Event = λ C. ended_with event C course p now in
      updates-as (λ C. update C course p now) (λ C s. ending C (begun p now s)) h b r e exit (is told)
      (updates-from (begun p now) ending h n b r e exit c u)
