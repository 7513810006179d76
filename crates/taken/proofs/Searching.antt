-- What a search finds on a line lies on the line, in the plane. Assumes nothing.
use Prim.Native.Nat.{ℕ, ◌-◌, ◌≤◌, ◌<◌}
use native.Mathlib.Omega.{arith}
use mathlib.Core.Path.{sym, subst}
use mathlib.Core.List.{List}
use lib.ListN.{length}
use Rattle.plane.specs.declared.Point.{Point}
use Rattle.plane.specs.Plane.{share, at_share, project}
use Rattle.plane.proofs.Place.{Place}
use Rattle.plane.proofs.Places.{share-share, project-place}
use Rattle.crumbs.specs.declared.Crumb.{Crumb}
use Rattle.crumbs.specs.Crumb.{point}
use Rattle.segments.specs.declared.costs.Nearest.{Nearest}
use Rattle.search.specs.declared.Range.{Range}
use Rattle.crumbs.specs.Line.{at}
use Rattle.segments.specs.Segment.{meets, nearest_on}
use Rattle.search.specs.Theorems.{Met}
use Rattle.taken.proofs.Bounds.{Along, far, along-share}
use Rattle.taken.proofs.Laid.{InPlane, laid-at}
use Rattle.taken.proofs.State.{Lined}

-- a match in the plane
pub record Matches (near : Nearest) : Type 0 where
  pub place : Place near.point
  pub along : Along far near.along

-- a match on a segment of a line of n crumbs
pub record OnSegment (n : ℕ) (near : Nearest) : Type 0 where
  pub from : 1 ≤ near.end
  pub to : near.end < n
  pub matches : Matches near

meets-matches : (a b : Crumb) (p : Point) (end : ℕ) → InPlane a → InPlane b → Place p → Matches (meets a b p end)
unfolding meets project at_share
meets-matches a b p end A B P =
    record {
      place = project-place p (point a) (point b) P A.place B.place;
      along = along-share (share p (point a) (point b)) a.along b.along (share-share p (point a) (point b) P A.place B.place)
          A.along B.along;
    }

nearest-matches : (line : List Crumb) (p : Point) (end : ℕ) → Lined line → Place p → end < length line → Matches (nearest_on line p end)
unfolding nearest_on
nearest-matches line p end l P there =
    meets-matches (at line (end - 1)) (at line end) p end
    (laid-at 0 (end - 1) line (omega (arith, l.few)) l.laid (omega arith))
    (laid-at 0 end line (omega (arith, l.few)) l.laid there) P

-- whatever is met among ends of the line
pub met-on : (line : List Crumb) (p : Point) (ends : Range) (near : Nearest) → Lined line → Place p → 1 ≤ ends.from
    → ends.to < length line
    → Met line p ends near → OnSegment (length line) near
met-on line p ends near l P first last met =
    let there : near.end < length line = omega (arith, met.to) in
    record {
      from = omega (arith, met.from);
      to = there;
      matches = subst Matches (sym met.there) (nearest-matches line p near.end l P there);
    }
