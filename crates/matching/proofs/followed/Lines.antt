-- The followed line: how long it is, and that what is found on it lies on it. Assumes nothing.
use mathlib.Core.Path.{◌≡◌, refl, sym, ap, ◌∙◌}
use Prim.Native.Nat.{ℕ, ◌+◌, ◌-◌, ◌≤◌, ◌<◌, min, max}
use native.Mathlib.Omega.{arith}
use mathlib.Core.Bool.{Bool, true, false, ◌||◌, false≢true}
use mathlib.Core.List.{List}
use lib.ListN.{length}
use lib.Ieee.{lt}
use Rattle.plane.specs.declared.Point.{Point}
use Rattle.crumbs.specs.declared.Crumb.{Crumb}
use Rattle.segments.specs.declared.costs.Nearest.{Nearest}
use Rattle.std.specs.Prelude.{Option, Some, None}
use Rattle.segments.specs.Inner.{InLine}
use Rattle.search.specs.declared.Range.{Range}
use Rattle.search.specs.declared.course_match.Progress.{Progress}
use Rattle.search.specs.Search.{nearest_on_breadcrumb}
use Rattle.search.specs.CourseMatch.{nearest_on_course}
use Rattle.search.proofs.Choosing.{OnlyMet}
use Rattle.search.proofs.Theorems.{breadcrumb-met}
use Rattle.search.proofs.course_match.Theorems.{course-met}
use Rattle.state.specs.declared.Line.{Line}
use Rattle.state.specs.declared.Line.TheVariants as line
use Rattle.state.specs.State.{State}
use Rattle.matching.specs.declared.followed.Followed.{Followed}
use Rattle.matching.specs.Distances.{off_m}
use Rattle.matching.specs.Match.{on_line, nearer, around_segment}
use Rattle.matching.specs.Followed.{followed_on, followed, nearest, progress, widened}
use Rattle.matching.specs.View.{IsFollowed, widened_from, match_in}
use Rattle.matching.proofs.Choosing.{picked, passed-by}

-- ---- the last match lies on it
module _ (segment : ℕ) (course crumbs : List Crumb) where
  abbrev Within : List Crumb → Type 0
  Within l = (1 ≤ segment) × (segment < length l)

  pub last_on : (on : Line) → on_line on ≡ true → (on ≡ line.Breadcrumb → Within crumbs) → (on ≡ line.Course → Within course)
      → segment < length (followed_on on course crumbs)
  unfolding on_line followed_on
  last_on line.Course l t c = (c refl).1
  last_on line.Breadcrumb l t c = (t refl).1
  last_on line.Nothing l t c = absurd (false≢true l)

-- ---- the nearest segment, by the line's own crumbs
unfoldable pub nearest_by : Line → Progress → List Crumb → Point → Range → Option Nearest
nearest_by line.Course was l p ends = nearest_on_course l p ends was
nearest_by line.Nothing was l p ends = nearest_on_breadcrumb l p ends
nearest_by line.Breadcrumb was l p ends = nearest_on_breadcrumb l p ends

module _ (course : List Crumb) (p : Point) (ends : Range) (s : State) where
  nearest-by : (on : Line) → nearest_by on (progress s) (followed_on on course s.track.crumbs) p ends ≡ nearest on course p ends s
  unfolding nearest nearest_by followed_on
  nearest-by line.Course = refl
  nearest-by line.Nothing = refl
  nearest-by line.Breadcrumb = refl

-- ---- by the line that is followed
module _ {f : Followed} {course : List Crumb} {s : State} (i : IsFollowed f course s) (p : Point) where
  abbrev nearest_in : Range → Option Nearest
  nearest_in ends = nearest s.follow.line course p ends s

  pub nearest-as : (ends : Range) → nearest_by f.on f.was f.line.now p ends ≡ nearest_in ends
  unfolding progress
  nearest-as ends =
      ap (λ (x : Line). nearest_by x f.was f.line.now p ends) i.parts.on
      ∙ ap (λ (x : Progress). nearest_by s.follow.line x f.line.now p ends) i.parts.was
      ∙ ap (λ (l : List Crumb). nearest_by s.follow.line (progress s) l p ends) i.parts.line
      ∙ nearest-by course p ends s s.follow.line

  -- ---- the match of a fix
  abbrev whole : ℕ → Range
  whole len = record { from = 1; to = len - 1 }

  lost-too : (near : Nearest) (t : Bool) → (f.off || lt off_m near.off) ≡ t → (s.follow.off || lt off_m near.off) ≡ t
  lost-too near t e = sym (ap (λ (x : Bool). x || lt off_m near.off) i.parts.off) ∙ e

  pub widened-off : (near : Nearest) (best : Option Nearest) {len : ℕ} → (f.off || lt off_m near.off) ≡ true → len ≡ length f.line.now
      → best ≡ nearest_in (whole len) → nearer near best ≡ widened course p near s
  unfolding widened
  widened-off near best t long e =
      ap (λ (x : Option Nearest). nearer near x)
      (e ∙ ap (λ (n : ℕ). nearest_in (whole n)) (long ∙ ap (λ (l : List Crumb). length l) i.parts.line))
      ∙ sym (picked (nearer near (nearest_in (whole (length (followed course s))))) near _ (lost-too near true t))

  pub widened-on : (near : Nearest) → (f.off || lt off_m near.off) ≡ false → near ≡ widened course p near s
  unfolding widened
  widened-on near t = sym (passed-by (nearer near (nearest_in (whole (length (followed course s))))) near _ (lost-too near false t))

  pub matched-from : (from to : ℕ) (best : Option Nearest) {len : ℕ} → from ≡ max (f.segment - 64) 1 → to ≡ min (f.segment + 4) (len - 1)
      → len ≡ length f.line.now
      → best ≡ nearest_in (record { from = from; to = to }) → widened_from best course p s ≡ match_in course p s
  unfolding match_in around_segment
  matched-from from to best low high long e =
      ap (λ (x : Option Nearest). widened_from x course p s)
      (e
      ∙ ap (λ (n : ℕ). nearest_in (record { from = n; to = to })) low
      ∙ ap (λ (n : ℕ). nearest_in (record { from = max (f.segment - 64) 1; to = n })) high
      ∙ ap (λ (n : ℕ). nearest_in (record { from = max (f.segment - 64) 1; to = min (f.segment + 4) (n - 1) }))
      (long ∙ ap (λ (l : List Crumb). length l) i.parts.line)
      ∙ ap (λ (n : ℕ). nearest_in (record { from = max (n - 64) 1; to = min (n + 4) (length (followed course s) - 1) })) i.parts.segment)

module _ (best : Option Nearest) (course : List Crumb) (p : Point) (s : State) where
  pub matched-none : best ≡ None → None ≡ widened_from best course p s
  unfolding widened_from
  matched-none told = sym (ap (λ (x : Option Nearest). widened_from x course p s) told)

  pub matched-some : (near : Nearest) → best ≡ Some near → Some (widened course p near s) ≡ widened_from best course p s
  unfolding widened_from
  matched-some near told = sym (ap (λ (x : Option Nearest). widened_from x course p s) told)

-- ---- what is found lies on the line
pub low_end : (from segment : ℕ) → from ≡ max (segment - 64) 1 → 1 ≤ from
low_end from segment e = omega (arith, e)

pub high_end : (to segment len : ℕ) → 2 ≤ len → to ≡ min (segment + 4) (len - 1) → to < len
high_end to segment len n e = omega (arith, n, e)

module _ (p : Point) (ends : Range) (len : ℕ) (low : 1 ≤ ends.from) (high : ends.to < len) where
  met-in : (l : List Crumb) (best : Option Nearest) → OnlyMet l p ends best → InLine len best
  met-in l None met = tt
  met-in l (Some near) met = let m = met near refl in (omega (arith, m.from, low), omega (arith, m.to, high))

  nearest_in_line : (on : Line) (course : List Crumb) (s : State) → InLine len (nearest on course p ends s)
  unfolding nearest
  nearest_in_line line.Course course s = met-in course _ (course-met course p ends low (progress s))
  nearest_in_line line.Nothing course s = met-in s.track.crumbs _ (breadcrumb-met s.track.crumbs p ends)
  nearest_in_line line.Breadcrumb course s = met-in s.track.crumbs _ (breadcrumb-met s.track.crumbs p ends)

nearer-in : (len : ℕ) (near : Nearest) (best : Option Nearest) → InLine len (Some near) → InLine len best
    → InLine len (Some (nearer near best))
unfolding nearer
nearer-in len near None on in-line = on
nearer-in len near (Some other) on in-line = by (lt other.off near.off)
  where
    by : (b : Bool) → InLine len (Some (elim b [ true ↦ other | false ↦ near ]))
    by true = in-line
    by false = on

module _ (course : List Crumb) (p : Point) (s : State) where
  abbrev len : ℕ
  len = length (followed course s)

  widened-in : (near : Nearest) → InLine len (Some near) → InLine len (Some (widened course p near s))
  unfolding widened
  widened-in near on = by (s.follow.off || lt off_m near.off)
    where
      all : Range
      all = record { from = 1; to = len - 1 }

      by : (t : Bool) → InLine len (Some (elim t [ true ↦ nearer near (nearest s.follow.line course p all s) | false ↦ near ]))
      by true = nearer-in len near _ on (nearest_in_line p all len (omega arith) (omega (arith, on.1)) s.follow.line course s)
      by false = on

  widened-from-in : (best : Option Nearest) → InLine len best → InLine len (widened_from best course p s)
  unfolding widened_from
  widened-from-in None on = tt
  widened-from-in (Some near) on = widened-in near on

  pub match-in : 2 ≤ len → InLine len (match_in course p s)
  unfolding match_in around_segment
  match-in two = widened-from-in _ (nearest_in_line p _ len (low_end _ _ refl) (high_end _ _ _ two refl) s.follow.line course s)
