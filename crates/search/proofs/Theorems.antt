-- What holds of the searches for every line, position and heading. Assumes nothing.
use Prim.Native.Nat.{ℕ, zero, suc, ◌-◌, ◌%◌, ◌≤◌, ◌<◌}
use mathlib.Core.Path.{◌≡◌, refl, sym, ap, ◌∙◌}
use mathlib.Core.Bool.{Bool, true, false, cond}
use mathlib.Core.List.{List, [], ◌∷◌}
use native.Mathlib.Omega.{arith}
use borrow.Author.Tests.{le-ltb}
use lib.ListN.{length}
use lib.IntN.{ℤ}
use lib.Ieee.{Float, nan, inf, fin, lt, le}
use Rattle.binary32.proofs.magnitude.Size.{Within}
use Rattle.plane.specs.declared.Point.{Point}
use Rattle.plane.specs.Plane.{turn}
use Rattle.crumbs.specs.declared.Crumb.{Crumb}
use Rattle.segments.specs.declared.costs.Nearest.{Nearest}
use Rattle.std.specs.Prelude.{Option, Some, None}
use Rattle.segments.specs.declared.costs.Ranking.{Ranking}
use Rattle.segments.specs.declared.costs.Ranking.TheVariants.{Plain}
use Rattle.search.specs.declared.Range.{Range}
use Rattle.segments.specs.declared.Stretch.{Stretch}
use Rattle.segments.specs.Turn.{turned}
use Rattle.segments.specs.Cost.{plain, cost_of}
use Rattle.crumbs.specs.Line.{at}
use Rattle.segments.specs.Segment.{nearest_on, cost_within, considered, found}
use Rattle.search.specs.Search.{largest, lowest, falling, count, every, anywhere, nearest_on_breadcrumb, nearest_within}
use Rattle.search.specs.Course.{closer, cost_anywhere, course_near, joins, joined_from, joined}
use Rattle.search.specs.Along.{place_before, ends as leading}
use Rattle.search.specs.Theorems.{Met, FirstOfLeast, Finds, EveryBreadcrumb, EveryCourse, EveryFinding}
use Rattle.search.proofs.Choosing.{OnlyMet, rising-all, falling-all, chosen-met, chosen-finds}

abbrev pub Lower : ℕ → ℕ → Type 0
Lower e f = e < f

abbrev pub Higher : ℕ → ℕ → Type 0
Higher e f = f < e

pub lower-one-way : (e f : ℕ) → Lower e f → Lower f e → ⊥
lower-one-way e f a b = omega arith

higher-one-way : (e f : ℕ) → Higher e f → Higher f e → ⊥
higher-one-way e f a b = omega arith

module _ (line : List Crumb) (p : Point) where
  -- ---- the two searches
  module _ (ends : Range) where
    breadcrumb : (near : Nearest) → nearest_on_breadcrumb line p ends ≡ Some near
        → Met line p ends near × ((least : Float) × FirstOfLeast (cost_within line p anywhere Plain) Lower ends near.end least)
    unfolding nearest_on_breadcrumb
    breadcrumb =
        chosen-met line p (cost_within line p anywhere Plain) Lower lower-one-way ends _
        (rising-all line p (cost_within line p anywhere Plain) Lower lower-one-way (λ e f h. h) ends)

    pub breadcrumb-met : OnlyMet line p ends (nearest_on_breadcrumb line p ends)
    breadcrumb-met near e = (breadcrumb near e).0

    module _ (first : 1 ≤ ends.from) (within : Stretch) (by : Ranking) where
      course : (near : Nearest) → nearest_within line p ends within by ≡ Some near
          → Met line p ends near × ((least : Float) × FirstOfLeast (cost_within line p within by) Higher ends near.end least)
      unfolding nearest_within
      course =
          chosen-met line p (cost_within line p within by) Higher higher-one-way ends _
          (falling-all line p (cost_within line p within by) Higher higher-one-way (λ e f h. h) ends first)

      pub within-met : OnlyMet line p ends (nearest_within line p ends within by)
      within-met near e = (course near e).0

  -- ---- the course while it is not followed
  closer-than : (most : Float) (best : Option Nearest) (near : Nearest) → closer most best ≡ Some near
      → (best ≡ Some near) × (le near.off most ≡ true)
  unfolding closer
  closer-than most None near e = let z : ◌≡◌ {A = ℕ} 0 1 = cc in absurd (omega arith)
  closer-than most (Some other) near e = by-test (le other.off most) refl e
    where
      by-test : (b : Bool) → le other.off most ≡ b → cond b (Some other) None ≡ Some near
          → (Some other ≡ Some near) × (le near.off most ≡ true)
      by-test true t f = let g : other ≡ near = cc in (f, ap (λ n. le n.off most) (sym g) ∙ t)
      by-test false t f = let z : ◌≡◌ {A = ℕ} 0 1 = cc in absurd (omega arith)

  -- a segment of the line, at most so far away
  pub course-near-met : (most : Float) (near : Nearest) → course_near line p most ≡ Some near
      → Met line p (every line) near × (le near.off most ≡ true)
  unfolding course_near
  course-near-met most near e =
      let f = closer-than most
      (found (falling (considered line p (cost_anywhere line p)) (count (every line)) (every line).to None)) near e in (
        (chosen-met line p (cost_anywhere line p) Higher higher-one-way (every line) _
            (falling-all line p (cost_anywhere line p) Higher higher-one-way (λ e f h. h) (every line) (omega arith)) near f.0).0,
        f.1,
      )

  module _ (heading : ℕ) where
    joined-from : (end n : ℕ) → joined_from line p heading n ≡ Some end → (1 ≤ end) × (end ≤ n)
    unfolding joined_from
    joined-from end zero e = let z : ◌≡◌ {A = ℕ} 0 1 = cc in absurd (omega arith)
    joined-from end (suc k) e = by-test (joins p heading (at line k) (at line (suc k))) (joined-from end k) e
      where
        by-test : (b : Bool) → (joined_from line p heading k ≡ Some end → (1 ≤ end) × (end ≤ k))
            → elim b [ true ↦ Some (suc k) | false ↦ joined_from line p heading k ] ≡ Some end → (1 ≤ end) × (end ≤ suc k)
        by-test true h f = let g : suc k ≡ end = cc in (omega arith, omega arith)
        by-test false h f = let r = h f in (r.0, omega (arith, r.1))

    -- the segment joined is one of the line's
    pub joined_end : (end : ℕ) → joined line p heading ≡ Some end → (1 ≤ end) × (end < length line)
    unfolding joined
    joined_end end e = let r = joined-from end (every line).to e in (r.0, omega (arith, r.0, r.1))

pub breadcrumbs : EveryBreadcrumb
breadcrumbs line p ends near e = breadcrumb line p ends near e

pub courses : EveryCourse
courses line p ends first within by near e = course line p ends first within by near e

-- ---- a breadcrumb that has a segment with finite along is matched
-- what is no larger than b in size lies from -b to b
not-above : (n : ℕ) (d : ℤ) (x : Float) → Within (fin false n d) x → lt (fin false n d) x ≡ false
unfolding lt
not-above n d nan h = refl
not-above n d (inf s) h = absurd h
not-above n d (fin true m e) h = refl
not-above n d (fin false m e) h = le-ltb _ _ h

not-below : (n : ℕ) (d : ℤ) (x : Float) → Within (fin false n d) x → lt x (fin true n d) ≡ false
unfolding lt
not-below n d nan h = refl
not-below n d (inf s) h = absurd h
not-below n d (fin true m e) h = le-ltb _ _ h
not-below n d (fin false m e) h = refl

module _ (line : List Crumb) (p : Point) (ends : Range) (end : ℕ) (from : ends.from ≤ end) (to : end ≤ ends.to) where
  breadcrumb-finds : lt (at line end).along lowest ≡ false → lt largest (at line (end - 1)).along ≡ false
      → Finds (nearest_on_breadcrumb line p ends)
  unfolding nearest_on_breadcrumb cost_within cost_of plain
  breadcrumb-finds low high =
      let cost : cost_within line p anywhere Plain end ≡ Some (nearest_on line p end).off = rw (low, high, cost_within) in
      chosen-finds line p (cost_within line p anywhere Plain) Lower lower-one-way ends _
      (rising-all line p (cost_within line p anywhere Plain) Lower lower-one-way (λ e f h. h) ends) end _ (from, to) cost

  pub breadcrumb-finds-finite : Within largest (at line (end - 1)).along → Within largest (at line end).along
      → Finds (nearest_on_breadcrumb line p ends)
  unfolding largest lowest
  breadcrumb-finds-finite a b = breadcrumb-finds (not-below _ _ _ b) (not-above _ _ _ a)

pub findings : EveryFinding
findings line p ends end from to low high = breadcrumb-finds line p ends end from to low high

-- ---- places along a line, and turns
pub place-at-most : (line : List Crumb) (along : Float) (i : ℕ) → place_before line along i ≤ i
unfolding place_before
place-at-most line along zero = omega arith
place-at-most line along (suc k) = by-test (lt along (at line (suc k)).along) (place-at-most line along k)
  where
    by-test : (b : Bool) → place_before line along k ≤ k → elim b [ true ↦ place_before line along k | false ↦ suc k ] ≤ suc k
    by-test true h = omega arith
    by-test false h = omega arith

pub ends-at-most : (line : List Crumb) (limit : Float) → leading line limit ≤ length line
unfolding leading
ends-at-most [] limit = omega arith
ends-at-most (c ∷ line) limit = by-test (le c.along limit) (ends-at-most line limit)
  where
    by-test : (b : Bool) → leading line limit ≤ length line → elim b [ true ↦ suc (leading line limit) | false ↦ 0 ] ≤ suc (length line)
    by-test true h = omega arith
    by-test false h = omega arith

pub turned-below : (heading way : ℕ) → turned heading way < turn
unfolding turned
turned-below heading way = below _
  where
    below : (n : ℕ) → n % 4096 < 4096
    below n = omega arith
