-- What is done to the breadcrumb, in the whole state. Assumes nothing.
use mathlib.Core.Path.{◌≡◌, refl, sym, ap, ◌∙◌, subst}
use Prim.Native.Nat.{ℕ, ◌≤◌, max}
use native.Mathlib.Omega.{arith}
use mathlib.Core.Bool.{Bool}
use mathlib.Core.List.{List}
use lib.ListN.{length}
use lib.Ieee.{Float}
use Rattle.plane.specs.declared.Point.{Point}
use Rattle.std.specs.Prelude.{Option, Some, None}
use Rattle.crumbs.specs.declared.Crumb.{Crumb}
use Rattle.crumbs.specs.Crumb.{capacity, crumbs, behind}
use Rattle.crumbs.proofs.Crumbs.{take-crumbs, behind_more}
use Rattle.trail.specs.declared.Trail.{Trail}
use Rattle.trail.specs.Notes.{thinned_in}
use Rattle.trail.specs.Trail.{Track, Rule, with_crumbs}
use Rattle.trail.specs.View.{track}
use Rattle.trail.specs.Inner.{Recorded, Records}
use Rattle.trail.specs.View as trail
use Rattle.state.specs.declared.Homing.{Homing}
use Rattle.state.specs.declared.Follow.{Follow}
use Rattle.state.specs.declared.Line.{Line}
use Rattle.state.specs.State.{State, state_of, with_track, with_follow}
use Rattle.state.specs.Rule.{Done, done}
use Rattle.follow.specs.Record.{after_thinning, recorded_in, recorded, keep_in}
use Rattle.follow.specs.Parts.{stopped}
use Rattle.follow.specs.Engage.{cut_to, leave_at, forgotten, stop_breadcrumb, stop_on, stop}
use Rattle.follow.specs.View.{Follows, Changes}

-- the state with another trail, another window and another following
abbrev recorded_as : Trail → List Float → Follow → Homing → Homing
recorded_as t w f h =
    record {
      trail = t;
      window = w;
      frame = h.frame;
      fed = h.fed;
      here = h.here;
      here_ms = h.here_ms;
      motion = h.motion;
      follow = f;
      course = h.course;
      auto_follow = h.auto_follow;
      arrived = h.arrived;
      lap = h.lap;
      updated_ms = h.updated_ms;
      guide = h.guide;
    }

module _ (rule : ℕ → Rule) (h : Homing) {r : Recorded} {entry w exit : List Float} {f : Follow}
    (did : Records rule h.trail h.window entry r w exit) where
  pub taken-over : f ≡ after_thinning r.thinned h.follow
      → Follows (λ C s. recorded (rule C s.track) s) h entry (recorded_as r.trail w f h) exit
  unfolding recorded recorded_in
  taken-over e =
      let C = capacity (length entry) in
      let d = rule C (track h.trail h.window entry) in
      record {
        same =
            ap (λ (x : Follow). with_follow x (with_track (track r.trail w exit) (state_of h entry)))
            (e ∙ ap (λ (b : Bool). after_thinning b h.follow) did.thinned)
            ∙ ap (λ (t : Track). recorded_in (thinned_in d.notes) t (state_of h entry)) did.follows.same;
        fit = did.follows.fit;
        size = did.follows.size;
        beyond = did.follows.beyond;
      }

-- ---- the breadcrumb cut
pub max-le : (a b c : ℕ) → a ≤ b → max a c ≤ max b c
max-le a b c h = omega arith

-- a state whose breadcrumb is cut to its first crumbs, and then a crumb kept
module _ (h cut r : Homing) (p : Point) (segment : ℕ) (entry exit : List Float) where
  pub left_at : state_of cut entry ≡ cut_to segment (state_of h entry) → cut.trail.len ≤ h.trail.len
      → Follows (λ C. keep_in C p) cut entry r exit → Follows (λ C. leave_at C (Some p) segment) h entry r exit
  unfolding leave_at
  left_at e l f =
      record {
        same = f.same ∙ ap (λ (s : State). (keep_in (capacity (length entry)) p s).state) e;
        fit = f.fit;
        size = f.size;
        beyond = behind_more (max cut.trail.len r.trail.len) (max h.trail.len r.trail.len) exit entry
            (max-le cut.trail.len h.trail.len r.trail.len l) f.beyond;
      }

pub cut-state : (h : Homing) (segment : ℕ) (entry : List Float) → segment ≤ h.trail.len
    → with_track (with_crumbs (crumbs segment entry) (track h.trail h.window entry)) (state_of h entry) ≡ cut_to segment (state_of h entry)
unfolding cut_to track
cut-state h segment entry l = ap (λ (c : List Crumb). with_track (with_crumbs c (track h.trail h.window entry)) (state_of h entry))
    (sym (take-crumbs segment h.trail.len entry l))

-- ---- a change that leaves the trail alone
pub unmoved : (rule : State → State) (h r : Homing) (b : List Float) → trail.TrailFit h.trail (length b) → Changes rule h r
    → Follows (λ C s. done (tt {0}) (rule s)) h b r b
unmoved rule h r b f c =
    record {
      same = c.same b;
      fit = subst (λ (t : Trail). trail.TrailFit t (length b)) (sym c.trail) f;
      size = refl;
      beyond = refl;
    }

-- ---- following ends
pub left-nowhere : (h : Homing) (matched : Option Point) (segment : ℕ) (b : List Float) → matched ≡ None → trail.TrailFit h.trail (length b)
    → Follows (λ C. leave_at C matched segment) h b h b
unfolding leave_at
left-nowhere h matched segment b told f =
    subst (λ (m : Option Point). Follows (λ C. leave_at C m segment) h b h b) (sym told)
    (record { same = refl; fit = f; size = refl; beyond = refl })

module _ (h f r : Homing) (entry exit : List Float) where
  pub stops_at : state_of f entry ≡ with_follow (stopped None h.follow)
      (with_track (forgotten (track h.trail h.window entry)) (state_of h entry)) → f.trail.len ≡ h.trail.len
      → Follows (λ C. leave_at C h.follow.matched h.follow.segment) f entry r exit → Follows stop_breadcrumb h entry r exit
  unfolding stop_breadcrumb
  stops_at e l d =
      record {
        same = d.same ∙ ap (λ (s : State). (leave_at (capacity (length entry)) h.follow.matched h.follow.segment s).state) e;
        fit = d.fit;
        size = d.size;
        beyond = subst (λ (n : ℕ). behind (max n r.trail.len) exit ≡ behind (max n r.trail.len) entry) l d.beyond;
      }

-- by the line that was followed
pub stops-on : {A : Type 0} (rule : ℕ → State → Done A) (l : Line) (h r : Homing) (entry exit : List Float) → h.follow.line ≡ l
    → ((C : ℕ) (s : State) → (rule C s).state ≡ (stop_on l C s).state) → Follows rule h entry r exit → Follows stop h entry r exit
unfolding stop
stops-on rule l h r entry exit told is d =
    let C = capacity (length entry) in
    record {
      same = d.same ∙ is C (state_of h entry) ∙ ap (λ (x : Line). (stop_on x C (state_of h entry)).state) (sym told);
      fit = d.fit;
      size = d.size;
      beyond = d.beyond;
    }
