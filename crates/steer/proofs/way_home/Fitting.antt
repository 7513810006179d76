-- The state fits its buffers again after each step, and what an update would cut of the breadcrumb. Assumes nothing.
use mathlib.Core.Path.{◌≡◌, refl, sym, ap, ◌∙◌, subst}
use Prim.Native.Nat.{ℕ, ◌-◌, ◌≤◌, ◌<◌}
use native.Mathlib.Omega.{arith}
use mathlib.Core.Bool.{Bool, true, false, cond, true≢false, false≢true}
use mathlib.Core.List.{List, []}
use lib.ListN.{length}
use lib.Ieee.{Float, le}
use Rattle.binary32.specs.Limits.{plus_zero}
use Rattle.std.specs.Prelude.{Option, Some, None}
use Rattle.segments.specs.declared.costs.Nearest.{Nearest}
use Rattle.plane.specs.declared.Point.{Point}
use Rattle.crumbs.specs.declared.Crumb.{Crumb}
use Rattle.crumbs.specs.Crumb.{capacity}
use Rattle.search.specs.Course.{course_near}
use Rattle.matching.specs.Distances.{drop_m}
use Rattle.search.proofs.Theorems.{course-near-met}
use Rattle.trail.specs.declared.Trail.{Trail}
use Rattle.trail.specs.Trail.{window_places}
use Rattle.trail.specs.View as trail
use Rattle.state.specs.declared.Line.{Line}
use Rattle.state.specs.declared.Line.TheVariants as line
use Rattle.state.specs.declared.Follow.{Follow}
use Rattle.state.specs.declared.Homing.{Homing}
use Rattle.state.specs.State.{State, state_of}
use Rattle.state.specs.Rule.{done}
use Rattle.follow.specs.Parts.{ended_by_thinning}
use Rattle.follow.specs.Record.{after_thinning, recorded_in, recorded, keep_in}
use Rattle.follow.specs.Parts.{leads, stopped}
use Rattle.follow.specs.Engage.{engage_at, engage, cut_to, leave_at, stop_nothing, stop_course, stop_breadcrumb, stop_on, stop}
use Rattle.follow.specs.View.{HomingFit, Changes, Follows, SameHeld, Asks}
use Rattle.follow.proofs.Engaging.{long}
use Rattle.segments.specs.Inner.{InLine}
use Rattle.matching.specs.Match.{on_course, on_line}
use Rattle.update.proofs.Keeping.{Loose, len-held}
use Rattle.calls.specs.Follow.{near_here}

-- ---- following ended
thinned-line : (b : Bool) (f : Follow) → f.line ≡ line.Nothing → (after_thinning b f).line ≡ line.Nothing
unfolding after_thinning ended_by_thinning
thinned-line true f n = ap (λ (l : Line). (ended_by_thinning l f).line) n ∙ n
thinned-line false f n = n

left-idle : (C : ℕ) (matched : Option Point) (segment : ℕ) (s : State) → s.follow.line ≡ line.Nothing
    → (leave_at C matched segment s).state.follow.line ≡ line.Nothing
unfolding leave_at keep_in recorded recorded_in cut_to
left-idle C None segment s n = n
left-idle C (Some p) segment s n = thinned-line _ s.follow n

stop-on-idle : (l : Line) (C : ℕ) (s : State) → (stop_on l C s).state.follow.line ≡ line.Nothing
unfolding stop_on stop_nothing stop_course stop_breadcrumb stopped
stop-on-idle line.Nothing C s = refl
stop-on-idle line.Course C s = refl
stop-on-idle line.Breadcrumb C s = left-idle C s.follow.matched s.follow.segment _ refl

stop-idle : (C : ℕ) (s : State) → (stop C s).state.follow.line ≡ line.Nothing
unfolding stop
stop-idle C s = stop-on-idle s.follow.line C s

module _ {h t : Homing} {entry mid : List Float} (d : Follows stop h entry t mid) where
  idle-stopped : on_line t.follow.line ≡ false
  unfolding on_line
  idle-stopped = ap (λ (s : State). on_line s.follow.line) d.same ∙ ap on_line (stop-idle _ (state_of h entry))

  idle : {l : Line} {A : Type 0} → on_line l ≡ true → t.follow.line ≡ l → A
  idle on e = absurd (false≢true (sym idle-stopped ∙ ap on_line e ∙ on))

  pub stopped-fits : {n : ℕ} → HomingFit t (length mid) n
  unfolding on_line
  stopped-fits = record { trail = d.fit; on_trail = idle refl; on_course = idle refl }

  pub stopped-loose : Loose (state_of t mid)
  unfolding on_line
  stopped-loose = idle refl

-- ---- a following begun
module _ (r : Homing) {on : Line} {end now : ℕ}
    (is : r.follow ≡ record { line = on; segment = end; matched = None; off = false; reminded_ms = now }) where
  begun-fits : {room n : ℕ} → trail.TrailFit r.trail room → (on ≡ line.Breadcrumb → (1 ≤ end) × (end < r.trail.len))
      → (on ≡ line.Course → (1 ≤ end) × (end < n)) → HomingFit r room n
  begun-fits {n = n} t trailed coursed =
      let told : r.follow.line ≡ on = ap (λ (f : Follow). f.line) is in
      record {
        trail = t;
        on_trail = λ e. subst (λ (f : Follow). (1 ≤ f.segment) × (f.segment < r.trail.len)) (sym is) (trailed (sym told ∙ e));
        on_course = λ e. subst (λ (f : Follow). (1 ≤ f.segment) × (f.segment < n)) (sym is) (coursed (sym told ∙ e));
      }

-- of the course
pub engaged-fits : (course : List Crumb) (end now : ℕ) {h r : Homing} {room n : ℕ} → Changes (engage_at course line.Course end now) h r
    → HomingFit h room n → (1 ≤ end) × (end < n) → HomingFit r room n
unfolding engage_at on_course
engaged-fits course end now {r = r} {room = room} c f on =
    begun-fits r (ap (λ (s : State). s.follow) (c.same [])) (subst (λ (t : Trail). trail.TrailFit t room) (sym c.trail) f.trail)
    (λ e. absurd (true≢false (ap on_course e))) (λ e. on)

-- of the breadcrumb
pub fit-held : {t r : Trail} {room : ℕ} → trail.TrailFit t room → SameHeld t r → trail.TrailFit r room
fit-held {room = room} f s =
    record {
      whole_long = f.whole_long;
      least = f.least;
      most = f.most;
      held = subst (λ (n : ℕ). n ≤ capacity room) (sym s.len) f.held;
      waiting = subst (λ (n : ℕ). n ≤ window_places) (sym s.waiting) f.waiting;
      tolerance = subst (λ (x : Float). le plus_zero x ≡ true) (sym s.tolerance) f.tolerance;
    }

chosen : (b : Bool) (p q : State) → true ≡ (cond b (done true p) (done false q)).answer → b ≡ true
chosen true p q e = refl
chosen false p q e = absurd (true≢false e)

module _ (course : List Crumb) (now : ℕ) {f e : Homing} {b : List Float} (a : Asks (engage course now) f b e true) where
  leads-home : leads (state_of f b).track.crumbs ≡ true
  unfolding engage
  leads-home = chosen (leads (state_of f b).track.crumbs) _ _ a.answered

  abbrev end : ℕ
  end = length (state_of f b).track.crumbs - 1

  begun-home : e.follow ≡ record { line = line.Breadcrumb; segment = end; matched = None; off = false; reminded_ms = now }
  unfolding engage engage_at
  begun-home =
      let s = state_of f b in
      ap (λ (x : State). x.follow) a.same
      ∙ ap (λ (x : Bool). (cond x (done true (engage_at course line.Breadcrumb end now s)) (done false s)).state.follow) leads-home

  pub home-loose : Loose (state_of e b)
  home-loose n = ap (λ (x : Follow). x.matched) begun-home

  pub home-fits : {n : ℕ} → trail.TrailFit f.trail (length b) → HomingFit e (length b) n
  unfolding on_course
  home-fits t =
      let many : 2 ≤ length (state_of f b).track.crumbs = long (state_of f b).track.crumbs leads-home in
      let len : length (state_of f b).track.crumbs ≡ e.trail.len = len-held f b ∙ sym a.held.len in
      begun-fits e begun-home (fit-held t a.held) (λ n. (omega (arith, many), omega (arith, many, len)))
      (λ n. absurd (false≢true (ap on_course n)))

-- ---- the course found near
pub near-in : (here : Option Point) (course : List Crumb) → InLine (length course) (near_here here course)
unfolding near_here
near-in None course = tt
near-in (Some p) course = found (course_near course p drop_m) refl
  where
    found : (best : Option Nearest) → course_near course p drop_m ≡ best → InLine (length course) best
    found None e = tt
    found (Some near) e = let met = (course-near-met course p drop_m near e).0 in (met.from, omega (arith, met.from, met.to))
