-- What holds of the searches for every line, position and heading. `proofs/Theorems.antt` proves it.
use Rattle.std.specs.Prelude.{ℕ, ◌-◌, ◌≤◌, ◌<◌, ◌≡◌, false, List, Float, Option, Some}
use Rattle.std.specs.Float.Ieee.{lt, le}
use Rattle.plane.specs.declared.Point.{Point}
use Rattle.crumbs.specs.declared.Crumb.{Crumb}
use Rattle.segments.specs.declared.costs.Nearest.{Nearest}
use Rattle.segments.specs.declared.costs.Ranking.{Ranking}
use Rattle.segments.specs.declared.costs.Ranking.TheVariants.{Plain}
use Rattle.segments.specs.declared.Stretch.{Stretch}
use Rattle.search.specs.declared.Range.{Range}
use Rattle.crumbs.specs.Line.{at}
use Rattle.segments.specs.Segment.{nearest_on, cost_within}
use Rattle.search.specs.Search.{largest, lowest, anywhere, nearest_on_breadcrumb, nearest_within}

-- `near` is where p meets a segment of the line, one of those tried
pub record Met (line : List Crumb) (p : Point) (ends : Range) (near : Nearest) : Type 0 where
  pub from : ends.from ≤ near.end
  pub to : near.end ≤ ends.to
  pub there : near ≡ nearest_on line p near.end

-- segment `end` has the cost `least`; of those tried none costs less, and none `earlier` costs as little
pub record FirstOfLeast (cost : ℕ → Option Float) (earlier : ℕ → ℕ → Type 0) (ends : Range) (end : ℕ) (least : Float) : Type 0 where
  pub own : cost end ≡ Some least
  pub none-less : (e : ℕ) (c : Float) → ends.from ≤ e → e ≤ ends.to → cost e ≡ Some c → lt c least ≡ false
  pub first : (e : ℕ) (c : Float) → ends.from ≤ e → e ≤ ends.to → earlier e end → cost e ≡ Some c → le c least ≡ false

-- something is found
abbrev pub Finds : Option Nearest → Type 0
Finds best = (near : Nearest) × (best ≡ Some near)

-- ---- the theorems
-- "Equal costs: breadcrumb keeps the lowest end"
abbrev pub EveryBreadcrumb : Type 0
EveryBreadcrumb =
    (line : List Crumb) (p : Point) (ends : Range) (near : Nearest) → nearest_on_breadcrumb line p ends ≡ Some near
    → Met line p ends near × ((least : Float) × FirstOfLeast (cost_within line p anywhere Plain) (λ e f. e < f) ends near.end least)

-- "course the highest", on any stretch and by any ranking
abbrev pub EveryCourse : Type 0
EveryCourse =
    (line : List Crumb) (p : Point) (ends : Range) → 1 ≤ ends.from → (within : Stretch) (by : Ranking) (near : Nearest)
    → nearest_within line p ends within by ≡ Some near
    → Met line p ends near × ((least : Float) × FirstOfLeast (cost_within line p within by) (λ e f. f < e) ends near.end least)

-- on a breadcrumb something is found where a segment tried neither ends at -∞ nor begins at +∞, however far off it is, a NaN included
abbrev pub EveryFinding : Type 0
EveryFinding =
    (line : List Crumb) (p : Point) (ends : Range) (end : ℕ) → ends.from ≤ end → end ≤ ends.to
    → lt (at line end).along lowest ≡ false → lt largest (at line (end - 1)).along ≡ false → Finds (nearest_on_breadcrumb line p ends)
