-- What a call that no question refuses may rely on, in the forms that the guide's functions require. Assumes nothing.
use Prim.Native.Nat.{ℕ, zero, suc, ◌≤◌, ◌<◌}
use mathlib.Core.Path.{◌≡◌, refl, sym, ◌∙◌}
use mathlib.Core.Logic.{◌≢◌}
use mathlib.Core.Bool.{Bool, true, false, ◌&&◌, ◌||◌, cond, and-eq-true_iff}
use mathlib.Core.List.{List, ◌∷◌}
use native.Mathlib.Omega.{arith}
use borrow.Author.Tests.{leb-true, ltb-true, ne_eqb}
use lib.Dec.{leb, ltb, eqb, eqb-suc-zero}
use lib.IntN.{nat_abs}
use lib.ListN.{length}
use lib.Ieee.{Float, le}
use Rattle.binary32.specs.Limits.{plus_zero}
use Rattle.std.specs.Prelude.{Option, Some, ℕ}
use Rattle.plane.specs.declared.Fix.{Fix}
use Rattle.plane.specs.Plane.{turn}
use Rattle.crumbs.specs.Crumb.{whole, capacity, crumbs}
use Rattle.trail.specs.Trail.{retrace_fixes, window_places}
use Rattle.trail.specs.View as trail
use Rattle.trail.specs.View.{places, track}
use Rattle.state.specs.declared.Line.{Line}
use Rattle.state.specs.declared.Line.TheVariants as line
use Rattle.state.specs.declared.Guide.{Guide}
use Rattle.state.specs.declared.Homing.{Homing}
use Rattle.state.specs.State.{state_of}
use Rattle.follow.specs.View as follow
use Rattle.course.specs.Course.{points}
use Rattle.calls.specs.Questions.{question1, question4, places_fit, spots_fit, along_fits, factor_fits, heading_fits, guide_fits}
use Rattle.calls.specs.Questions.{shown_fits}
use Rattle.calls.specs.Questions.{segment_fits, follow_fits, counts_fit, numbers_fit, state_fits, crumbs_fit, held_fits, line_fits}
use Rattle.calls.specs.Questions.{latitude_fits}
use Rattle.calls.specs.Questions.{longitude_fits, asks_state, asks_crumbs, asks_line, asks_both, asks_guide, asks_fix, asks_fixes, unless}
use Rattle.calls.specs.Questions.{◌or_else◌}
use Rattle.questions.specs.Counted.{turned}
use Rattle.questions.proofs.Counted.{counts-counted, held_counted}

-- ---- a question that says yes, and the next
pub passed : (b : Bool) (n : ℕ) → unless b (suc n) ≡ 0 → b ≡ true
passed true n e = refl
passed false n e = absurd (omega arith)

pub neither : (a b : ℕ) → (a or_else b) ≡ 0 → (a ≡ 0) × (b ≡ 0)
neither zero b e = (refl, e)
neither (suc a) b e = absurd (omega (arith, rw (eqb-suc-zero a) at e))

-- ---- a guide
pub record Pointed (g : Guide) : Type 0 where
  pub bearing : g.bearing < turn
  pub heading : (d : ℕ) → g.heading ≡ Some d → d < turn

-- ---- the state alone
pub record Counted (h : Homing) : Type 0 where
  pub waiting : h.trail.window_len ≤ window_places
  pub on_trail : h.follow.line ≡ line.Breadcrumb → (1 ≤ h.follow.segment) × (h.follow.segment < h.trail.len)
  pub on_course : h.follow.line ≡ line.Course → (1 ≤ h.follow.segment) × (h.follow.segment < h.course.line_len)
  pub retrace : h.trail.retrace < retrace_fixes
  pub retrace_len : h.trail.retrace ≢ 0 → h.trail.retrace_len ≤ h.trail.len
  pub tolerance : le plus_zero h.trail.tolerance ≡ true
  pub heading : (d : ℕ) → h.motion.heading ≡ Some d → d < turn
  pub guide : (g : Guide) → h.guide ≡ Some g → Pointed g

segment-given : (segment len : ℕ) → segment_fits segment len ≡ true → (1 ≤ segment) × (segment < len)
unfolding segment_fits
segment-given segment len e =
    let both = (and-eq-true_iff (leb 1 segment) (ltb segment len)).0 e in
    (leb-true 1 segment both.0, ltb-true segment len both.1)

trail-given : (on : Line) (segment len line_len : ℕ) → follow_fits on segment len line_len ≡ true → on ≡ line.Breadcrumb
    → (1 ≤ segment) × (segment < len)
unfolding follow_fits
trail-given on segment len line_len e told = segment-given segment len (rw told at e)

course-given : (on : Line) (segment len line_len : ℕ) → follow_fits on segment len line_len ≡ true → on ≡ line.Course
    → (1 ≤ segment) × (segment < line_len)
unfolding follow_fits
course-given on segment len line_len e told = segment-given segment line_len (rw told at e)

retrace-given : (retrace retrace_len len : ℕ) → (eqb retrace 0 || leb retrace_len len) ≡ true → retrace ≢ 0 → retrace_len ≤ len
retrace-given retrace retrace_len len e ne = leb-true retrace_len len (rw (ne_eqb retrace 0 ne) at e)

heading-given : (x : Option ℕ) → heading_fits x ≡ true → (d : ℕ) → x ≡ Some d → d < turn
unfolding heading_fits
heading-given x e d known = ltb-true d turn (rw known at e)

guide-fits : (g : Guide) → guide_fits g ≡ true → Pointed g
unfolding guide_fits
guide-fits g e =
    let both = (and-eq-true_iff (ltb g.bearing turn) (heading_fits g.heading)).0 e in
    record { bearing = ltb-true g.bearing turn both.0; heading = heading-given g.heading both.1 }

shown-given : (x : Option Guide) → shown_fits x ≡ true → (g : Guide) → x ≡ Some g → Pointed g
unfolding shown_fits
shown-given x e g told = guide-fits g (rw told at e)

numbers-given : (rest heading shown factor tolerance : Bool) → (rest && heading && shown && factor && tolerance) ≡ true
    → (heading ≡ true) × (shown ≡ true) × (tolerance ≡ true)
numbers-given rest heading shown factor tolerance e =
    let whole = (and-eq-true_iff (rest && heading && shown && factor) tolerance).0 e in
    let factored = (and-eq-true_iff (rest && heading && shown) factor).0 whole.0 in
    let all = (and-eq-true_iff (rest && heading) shown).0 factored.0 in
    (((and-eq-true_iff rest heading).0 all.0).1, all.1, whole.1)

module _ (h : Homing) (b : List Float) (fits : state_fits (state_of h b) ≡ true) where
  halves : (counts_fit (state_of h b) ≡ true) × (numbers_fit (state_of h b) ≡ true)
  unfolding state_fits
  halves = (and-eq-true_iff (counts_fit (state_of h b)) (numbers_fit (state_of h b))).0 fits

  numbers : (heading_fits h.motion.heading ≡ true) × (shown_fits h.guide ≡ true) × (le plus_zero h.trail.tolerance ≡ true)
  unfolding numbers_fit track
  numbers =
      numbers-given
      (places_fit (places h.trail.window_len h.window) && spots_fit (state_of h b) && along_fits h.course.along
      && along_fits h.course.reached)
      (heading_fits h.motion.heading) (shown_fits h.guide) (factor_fits h.frame.east_per_e7) (le plus_zero h.trail.tolerance)
      halves.1

  state-fits : Counted h
  state-fits =
      let f = h.follow in
      let on = follow_fits f.line f.segment h.trail.len h.course.line_len in
      let own = sym (counts-counted h b) ∙ halves.0 in
      let counts = (and-eq-true_iff (leb h.trail.window_len window_places && on) (turned h.trail)).0 own in
      let window = (and-eq-true_iff (leb h.trail.window_len window_places) on).0 counts.0 in
      let back = eqb h.trail.retrace 0 || leb h.trail.retrace_len h.trail.len in
      let turn = (and-eq-true_iff (ltb h.trail.retrace retrace_fixes) back).0 counts.1 in
      record {
        waiting = leb-true h.trail.window_len window_places window.0;
        on_trail = trail-given f.line f.segment h.trail.len h.course.line_len window.1;
        on_course = course-given f.line f.segment h.trail.len h.course.line_len window.1;
        retrace = ltb-true h.trail.retrace retrace_fixes turn.0;
        retrace_len = retrace-given h.trail.retrace h.trail.retrace_len h.trail.len turn.1;
        tolerance = numbers.2;
        heading = heading-given h.motion.heading numbers.0;
        guide = shown-given h.guide numbers.1;
      }

-- ---- by what a call is given
pub state-given : (h : Homing) (b : List Float) → asks_state (state_of h b) ≡ 0 → Counted h
unfolding asks_state
state-given h b e = state-fits h b (passed (state_fits (state_of h b)) 9 e)

buffer-given : (size : ℕ) → question1 size ≡ true → (whole size ≡ true) × (8 ≤ capacity size) × (capacity size ≤ 4096)
unfolding question1
buffer-given size e =
    let all = (and-eq-true_iff (whole size && leb 8 (capacity size)) (leb (capacity size) 4096)).0 e in
    let most = (and-eq-true_iff (whole size) (leb 8 (capacity size))).0 all.0 in
    (most.0, leb-true 8 (capacity size) most.1, leb-true (capacity size) 4096 all.1)

-- the state and a crumb buffer of `size` numbers
pub record Held (h : Homing) (size : ℕ) : Type 0 where
  pub counted : Counted h
  pub trail : trail.TrailFit h.trail size

held-given : (size : ℕ) (h : Homing) (b : List Float) → question1 size ≡ true
    → (state_fits (state_of h b) && held_fits (capacity size) (state_of h b)) ≡ true
    → Held h size
held-given size h b one ten =
    let buffer = buffer-given size one in
    let both = (and-eq-true_iff (state_fits (state_of h b)) (held_fits (capacity size) (state_of h b))).0 ten in
    let own = sym (held_counted (capacity size) h b) ∙ both.1 in
    let held = (and-eq-true_iff (leb h.trail.len (capacity size)) (crumbs_fit (crumbs h.trail.len b))).0 own in
    let counted = state-fits h b both.0 in
    record {
      counted = counted;
      trail =
          record {
            whole_long = buffer.0;
            least = buffer.1;
            most = buffer.2;
            held = leb-true h.trail.len (capacity size) held.0;
            waiting = counted.waiting;
            tolerance = counted.tolerance;
          };
    }

pub crumbs-given : (size : ℕ) (h : Homing) (b : List Float) → asks_crumbs size (state_of h b) ≡ 0 → Held h size
unfolding asks_crumbs
crumbs-given size h b e =
    let ten = state_fits (state_of h b) && held_fits (capacity size) (state_of h b) in
    let both = neither (unless (question1 size) 1) (unless ten 10) e in
    held-given size h b (passed (question1 size) 0 both.0) (passed ten 9 both.1)

-- a lent line of `size` numbers, and n points for it
pub record Lined (h : Homing) (size n : ℕ) : Type 0 where
  pub whole_long : whole size ≡ true
  pub most : capacity size ≤ points
  pub room : n ≤ capacity size
  pub placed : h.course.line_len ≤ capacity size

lined-given : (line : List Float) (n : ℕ) (h : Homing) → line_fits line h.course ≡ true → question4 (length line) n ≡ true
    → Lined h (length line) n
unfolding line_fits question4
lined-given line n h ten four =
    let C = capacity (length line) in
    let held = (and-eq-true_iff (leb h.course.line_len C) (crumbs_fit (crumbs h.course.line_len line))).0 ten in
    let all = (and-eq-true_iff (whole (length line) && leb C points) (leb n C)).0 four in
    let most = (and-eq-true_iff (whole (length line)) (leb C points)).0 all.0 in
    record {
      whole_long = most.0;
      most = leb-true C points most.1;
      room = leb-true n C all.1;
      placed = leb-true h.course.line_len C held.0;
    }

pub line-given : (line : List Float) (n : ℕ) (h : Homing) (b : List Float) → asks_line line n (state_of h b) ≡ 0
    → (Counted h) × (Lined h (length line) n)
unfolding asks_line
line-given line n h b e =
    let ten = state_fits (state_of h b) && line_fits line h.course in
    let both = neither (unless ten 10) (unless (question4 (length line) n) 4) e in
    let fits = (and-eq-true_iff (state_fits (state_of h b)) (line_fits line h.course)).0 (passed ten 9 both.0) in
    (state-fits h b fits.0, lined-given line n h fits.1 (passed (question4 (length line) n) 3 both.1))

-- both buffers
pub record Lent (h : Homing) (size line_size : ℕ) : Type 0 where
  pub held : Held h size
  pub lined : Lined h line_size 0
  pub fit : follow.HomingFit h size h.course.line_len

pub both-given : (size : ℕ) (line : List Float) (h : Homing) (b : List Float) → asks_both size line (state_of h b) ≡ 0
    → Lent h size (length line)
unfolding asks_both
both-given size line h b e =
    let own = state_fits (state_of h b) && held_fits (capacity size) (state_of h b) in
    let ten = own && line_fits line h.course in
    let four = unless (question4 (length line) 0) 4 in
    let first = neither (unless (question1 size) 1) (unless ten 10 or_else four) e in
    let second = neither (unless ten 10) four first.1 in
    let fits = (and-eq-true_iff own (line_fits line h.course)).0 (passed ten 9 second.0) in
    let held = held-given size h b (passed (question1 size) 0 first.0) fits.0 in
    let lined = lined-given line 0 h fits.1 (passed (question4 (length line) 0) 3 second.1) in
    record {
      held = held;
      lined = lined;
      fit = record { trail = held.trail; on_trail = held.counted.on_trail; on_course = held.counted.on_course };
    }

pub guide-given : (g : Guide) → asks_guide g ≡ 0 → Pointed g
unfolding asks_guide
guide-given g e = guide-fits g (passed (guide_fits g) 9 e)

-- ---- places
pub record Located (x : Fix) : Type 0 where
  pub latitude : nat_abs x.lat ≤ 900000000
  pub longitude : nat_abs x.lon ≤ 1800000000

pub fix-given : (x : Fix) → asks_fix x ≡ 0 → Located x
unfolding asks_fix latitude_fits longitude_fits
fix-given x e = by (leb (nat_abs x.lat) 900000000) (leb (nat_abs x.lon) 1800000000) refl refl e
  where
    by : (p q : Bool) → leb (nat_abs x.lat) 900000000 ≡ p → leb (nat_abs x.lon) 1800000000 ≡ q → ◌≡◌ {A = ℕ} (cond p (cond q 0 3) 2) 0
        → Located x
    by true true p q e = record { latitude = leb-true (nat_abs x.lat) 900000000 p; longitude = leb-true (nat_abs x.lon) 1800000000 q }
    by true false p q e = absurd (omega arith)
    by false q p r e = absurd (omega arith)

pub fixes-given : (x : Fix) (xs : List Fix) → asks_fixes (x ∷ xs) ≡ 0 → (Located x) × (asks_fixes xs ≡ 0)
unfolding asks_fixes
fixes-given x xs e = let both = neither (asks_fix x) (asks_fixes xs) e in (fix-given x both.0, both.1)
