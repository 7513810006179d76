-- What becomes of a following at a fix. Assumes nothing.
use mathlib.Core.Path.{◌≡◌, refl, sym, ap, ◌∙◌, subst}
use Prim.Native.Nat.{ℕ, ◌≤◌}
use mathlib.Core.Bool.{Bool, true, false, ◌&&◌, false≢true}
use mathlib.Core.List.{List}
use lib.Dec.{leb}
use lib.ListN.{length}
use lib.Ieee.{lt, le}
use borrow.Author.Tests.{leb-true}
use Rattle.plane.specs.declared.Point.{Point}
use Rattle.crumbs.specs.declared.Crumb.{Crumb}
use Rattle.segments.specs.declared.costs.Nearest.{Nearest}
use Rattle.std.specs.Prelude.{Option, Some, None}
use Rattle.matching.specs.Distances.{drop_m}
use Rattle.segments.specs.Inner.{InLine}
use Rattle.state.specs.declared.Line.{Line}
use Rattle.state.specs.declared.Event.{Event}
use Rattle.state.specs.declared.Event.TheVariants as event
use Rattle.state.specs.State.{State}
use Rattle.state.specs.Rule.{Done, done}
use Rattle.matching.specs.declared.followed.Followed.{Followed}
use Rattle.matching.specs.Match.{on_course, on_line}
use Rattle.matching.specs.Followed.{followed}
use Rattle.matching.specs.View.{IsFollowed, widened_from, match_in}
use Rattle.matching.proofs.Choosing.{picked, passed-by}
use Rattle.matching.proofs.followed.Lines.{match-in}
use Rattle.guide.specs.Guide.{arrive_m, direct}
use Rattle.update.specs.declared.Outcome.{Outcome}
use Rattle.update.specs.declared.Outcome.TheVariants.{Stays, Ends, GoesOn}
use Rattle.update.specs.Update.{course_end_m, begun, matched_at, at_course_end, ended_with, matched_to, match_from, follow_on, update}
use Rattle.update.specs.View.{comes_to}

-- ---- at the course's end
module _ (near : Nearest) (on : Line) (s : State) (is : s.follow.line ≡ on) where
  abbrev tests : Bool → Bool → Bool
  tests course close = course && close && lt near.along arrive_m

  on_line_lem : tests (on_course on) (le near.off course_end_m) ≡ at_course_end s near
  unfolding at_course_end
  on_line_lem = sym (ap (λ (x : Line). tests (on_course x) (le near.off course_end_m)) is)

  pub course-ends : on_course on ≡ true → le near.off course_end_m ≡ true → lt near.along arrive_m ≡ at_course_end s near
  course-ends c o = sym (ap (λ (x : Bool). tests x (le near.off course_end_m)) c ∙ ap (λ (x : Bool). tests true x) o) ∙ on_line_lem

  pub far-from-course : on_course on ≡ true → le near.off course_end_m ≡ false → false ≡ at_course_end s near
  far-from-course c o = sym (ap (λ (x : Bool). tests x (le near.off course_end_m)) c ∙ ap (λ (x : Bool). tests true x) o) ∙ on_line_lem

  pub no-course : on_course on ≡ false → false ≡ at_course_end s near
  no-course c = sym (ap (λ (x : Bool). tests x (le near.off course_end_m)) c) ∙ on_line_lem

-- ---- dropped, at the course's end, or matched
module _ (C now : ℕ) (course : List Crumb) (p : Point) (s : State) where
  abbrev by : Outcome → Done Event
  by o = comes_to o C course p now s

  module _ (near : Nearest) where
    abbrev ended : Event → Done Event
    ended e = ended_with e C course p now s

    abbrev on : Done Event
    on = matched_at course p now near s

    abbrev other : Done Event
    other = elim (at_course_end s near) [ true ↦ ended event.CourseEnd | false ↦ on ]

    pub drops : lt drop_m near.off ≡ true → matched_to C course p now near s ≡ by (Ends event.Dropped)
    unfolding matched_to comes_to
    drops t = picked (ended event.Dropped) other (lt drop_m near.off) t

    pub reaches_end : lt drop_m near.off ≡ false → at_course_end s near ≡ true
        → matched_to C course p now near s ≡ by (Ends event.CourseEnd)
    unfolding matched_to comes_to
    reaches_end t a =
        passed-by (ended event.Dropped) other (lt drop_m near.off) t
        ∙ picked (ended event.CourseEnd) on (at_course_end s near) a

    pub goes_on : lt drop_m near.off ≡ false → at_course_end s near ≡ false → matched_to C course p now near s ≡ by (GoesOn near)
    unfolding matched_to comes_to
    goes_on t a =
        passed-by (ended event.Dropped) other (lt drop_m near.off) t
        ∙ passed-by (ended event.CourseEnd) on (at_course_end s near) a

  -- ---- the match of a fix, or none
  unfoldable from : Option Nearest → Done Event
  from None = done event.Nothing s
  from (Some near) = matched_to C course p now near s

  match-from : (best : Option Nearest) → match_from best C course p now s ≡ from (widened_from best course p s)
  unfolding match_from widened_from from
  match-from None = refl
  match-from (Some near) = refl

  follow-from : {best : Option Nearest} → best ≡ match_in course p s → follow_on C course p now s ≡ from best
  unfolding follow_on match_in
  follow-from e = match-from _ ∙ sym (ap from e)

  pub stays : {best : Option Nearest} → best ≡ match_in course p s → best ≡ None → follow_on C course p now s ≡ by Stays
  unfolding from comes_to
  stays e told = follow-from e ∙ ap from told

  pub meets : {best : Option Nearest} {near : Nearest} → best ≡ match_in course p s → best ≡ Some near
      → follow_on C course p now s ≡ matched_to C course p now near s
  unfolding from
  meets e told = follow-from e ∙ ap from told

  -- ---- whether a line is followed
  abbrev pub leads : State → Bool
  leads t = on_line t.follow.line && leb 2 (length (followed course t))

  abbrev onward : Done Event
  onward = follow_on C course p now (begun p now s)

  abbrev straight : Done Event
  straight = direct course p (begun p now s)

  pub follows_on : leads (begun p now s) ≡ true → update C course p now s ≡ onward
  unfolding update
  follows_on t = picked onward straight (leads (begun p now s)) t

  pub goes-straight : leads (begun p now s) ≡ false → update C course p now s ≡ straight
  unfolding update
  goes-straight t = passed-by onward straight (leads (begun p now s)) t

  -- "`update` calling itself: following falls": where nothing is followed, as after a following ended, an update goes straight to the start
  pub unfollowed : on_line s.follow.line ≡ false → update C course p now s ≡ straight
  unfolding begun
  unfollowed l = goes-straight (ap (λ (x : Bool). x && leb 2 (length (followed course s))) l)

pub two-of : (a : Bool) (n : ℕ) → (a && leb 2 n) ≡ true → (2 ≤ n) × (a ≡ true)
two-of true n e = (leb-true 2 n e, refl)
two-of false n e = absurd (false≢true e)

-- ---- by what is followed
module _ {f : Followed} {course : List Crumb} {s : State} (i : IsFollowed f course s) where
  pub line_of : s.follow.line ≡ f.on
  line_of = sym i.parts.on

  len_of : length f.line.now ≡ length (followed course s)
  len_of = ap (λ (l : List Crumb). length l) i.parts.line

  pub met-in : (p : Point) {best : Option Nearest} {near : Nearest} → 2 ≤ length f.line.now → best ≡ match_in course p s
      → best ≡ Some near → InLine (length f.line.now) (Some near)
  met-in p two e told =
      let here = match-in course p s (subst (λ (n : ℕ). 2 ≤ n) len_of two) in
      subst (λ (x : Option Nearest). InLine (length f.line.now) x) (sym e ∙ told)
      (subst (λ (n : ℕ). InLine n (match_in course p s)) (sym len_of) here)

  module _ (p : Point) (now : ℕ) where
    pub begun-followed : IsFollowed f course (begun p now s)
    unfolding begun
    begun-followed = record { parts = i.parts }

    pub leads-here : {t : Bool} → (on_line f.on && leb 2 (length f.line.now)) ≡ t → leads 0 now course p s (begun p now s) ≡ t
    unfolding begun
    leads-here e =
        sym (ap (λ (x : Line). on_line x && leb 2 (length f.line.now)) i.parts.on
        ∙ ap (λ (n : ℕ). on_line s.follow.line && leb 2 n) len_of) ∙ e
