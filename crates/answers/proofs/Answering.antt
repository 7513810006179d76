-- An answer by the number of the first question that says no, and the rules by what the program holds. Assumes nothing.
use Rattle.std.proofs.Common.{ℕ, ◌≡◌, ◌≢◌, ◌==◌, ◌<◌, ◌≤◌, refl, sym, ap, ◌∙◌, subst, false, List, [], ◌∷◌, length}
use Rattle.std.proofs.Common.{Bool, not, Float, Option, option_map, Some, None, Result, Err}
use denote.Enum.Bare.{sameb}
use Rattle.std.specs.Bool.{then_some}
use borrow.Author.Tests.{eq-eqb}
use lib.Dec.{T}
use Rattle.refusal.specs.declared.Refusal.{Refusal}
use Rattle.refusal.specs.declared.Refusal.TheVariants as refusal
use Rattle.refusal.specs.Refusal.{number}
use Rattle.binary32.specs.Casts.{as_u32}
use Rattle.plane.specs.declared.Point.{Point}
use Rattle.plane.specs.Plane.{distance, turn}
use Rattle.crumbs.specs.declared.Crumb.{Crumb}
use Rattle.crumbs.specs.Crumb.{capacity, crumbs, point}
use Rattle.crumbs.specs.Choice.{first}
use Rattle.crumbs.proofs.Crumbs.{length-crumbs}
use Rattle.crumbs.specs.Along.{recorded_m, start_of}
use Rattle.trail.specs.View.{track}
use Rattle.state.specs.declared.Guide.{Guide}
use Rattle.state.specs.declared.Homing.{Homing}
use Rattle.state.specs.State.{State, state_of}
use Rattle.state.specs.contracts.Line.{the_type}
use Rattle.state.specs.declared.Line.{Line}
use Rattle.state.specs.declared.Line.TheVariants as line
use Rattle.state.specs.declared.Follow.{Follow}
use Rattle.state.specs.declared.Ahead.{Ahead}
use Rattle.state.specs.Guide.{arrow, arrow_from}
use Rattle.calls.specs.Ask.{len, following, following_course, course_ahead, route_home, heading, guide, way_back}
use Rattle.calls.specs.Ask.{ahead_of, course_ahead_on, route_home_on, way_back_from}
use Rattle.calls.specs.Questions.{asks_crumbs, asks_line, asks_guide}
use Rattle.calls.specs.Promises.{gives, answer, says}
use Rattle.questions.proofs.Given.{crumbs-given, line-given, guide-given}
use Rattle.matching.proofs.Lines.{on-line, on-course}

-- a question's number is no 0
pub numbered : (q : Refusal) → (number q == 0) ≡ false
numbered refusal.CrumbBuffer = refl
numbered refusal.Latitude = refl
numbered refusal.Longitude = refl
numbered refusal.LineBuffer = refl
numbered refusal.SampleCount = refl
numbered refusal.FileLength = refl
numbered refusal.Chain = refl
numbered refusal.EntryKind = refl
numbered refusal.Thinning = refl
numbered refusal.State = refl

pub refused-not : (q : Refusal) → number q ≢ 0
refused-not q e = absurd (subst T (sym (eq-eqb _ 0 e) ∙ numbered q) tt)

module _ {A : Type 0} {n : ℕ} where
  pub no : {r : Result A Refusal} {q : Refusal} → r ≡ Err q → number q ≡ n → (a : A) → says r ≡ answer n a
  unfolding answer
  no {r} {q} e told a = rw (e, ← told, numbered q) refl

  pub yes : {x a : A} → 0 ≡ n → x ≡ a → gives x ≡ answer n a
  unfolding answer
  yes passed e = rw (← passed) (ap gives e)

-- ---- the rules, by what they take
module _ (s : State) where
  pub following_is : following s ≡ not (sameb the_type s.follow.line line.Nothing)
  unfolding following
  following_is = sym (on-line s.follow.line)

  pub following_course_is : following_course s ≡ sameb the_type s.follow.line line.Course
  unfolding following_course
  following_course_is = sym (on-course s.follow.line)

  pub course_ahead_is : course_ahead s ≡ course_ahead_on s.follow.line s.follow
  unfolding course_ahead
  course_ahead_is = refl

  pub route_home_is : route_home s ≡ route_home_on s.follow.line s.follow
  unfolding route_home
  route_home_is = refl

  pub heading_is : heading s ≡ s.motion.heading
  unfolding heading
  heading_is = refl

  pub guide_is : guide s ≡ s.guide
  unfolding guide
  guide_is = refl

module _ (h : Homing) (b : List Float) where
  pub len_is : len (state_of h b) ≡ h.trail.len
  unfolding len track
  len_is = length-crumbs h.trail.len b

  pub way_back_is : way_back (state_of h b) ≡ way_back_from h.here (crumbs h.trail.len b)
  unfolding way_back track
  way_back_is = refl

pub arrow_is : (g : Guide) → arrow g ≡ arrow_from g.heading g.bearing
unfolding arrow
arrow_is g = refl

-- ---- the way on, by the line that is followed
module _ (f : Follow) where
  abbrev told : Bool → Option Ahead
  told on = then_some on (record { end = f.segment; point = f.matched })

  pub course_on : (l : Line) → told (sameb the_type l line.Course) ≡ course_ahead_on l f
  unfolding course_ahead_on ahead_of
  course_on line.Nothing = refl
  course_on line.Breadcrumb = refl
  course_on line.Course = refl

  pub home_on : (l : Line) → told (sameb the_type l line.Breadcrumb) ≡ route_home_on l f
  unfolding route_home_on ahead_of
  home_on line.Nothing = refl
  home_on line.Breadcrumb = refl
  home_on line.Course = refl

-- ---- the way back, from the first crumb
pub back_from : (p : Point) (l : List Crumb) → way_back_from (Some p) l
    ≡ option_map (λ a. record { direct = as_u32 (distance p (point a)); track = as_u32 (recorded_m l p) }) (first l)
unfolding way_back_from start_of
back_from p [] = refl
back_from p (a ∷ l) = refl

pub back_from_none : (l : List Crumb) → way_back_from None l ≡ None
unfolding way_back_from
back_from_none l = refl

-- ---- what is held, by the question's answer
module _ (h : Homing) (b : List Float) where
  pub crumbs_held : 0 ≡ asks_crumbs (length b) (state_of h b) → h.trail.len ≤ capacity (length b)
  crumbs_held passed = (crumbs-given (length b) h b (sym passed)).trail.held

  pub course_held : ((x : List Float) → 0 ≡ asks_line b 0 (state_of h x)) → h.course.line_len ≤ capacity (length b)
  course_held passed = (line-given b 0 h [] (sym (passed []))).1.placed

module _ (g : Guide) where
  pub bearing_below : 0 ≡ asks_guide g → g.bearing < turn
  bearing_below passed = (guide-given g (sym passed)).bearing

  pub heading_below : {d : ℕ} → g.heading ≡ Some d → 0 ≡ asks_guide g → d < turn
  heading_below {d} told passed = (guide-given g (sym passed)).heading d told

-- for every proof of the crate
pub ruleset by_line = (following_is, following_course_is, course_ahead_is, route_home_is, course_on, home_on)

pub ruleset by_crumbs = (len_is, way_back_is, back_from, back_from_none, crumbs_held, course_held)

pub ruleset by_guide = (heading_is, guide_is, arrow_is, bearing_below, heading_below)

pub ruleset answered = (no, yes, by_line, by_crumbs, by_guide)
