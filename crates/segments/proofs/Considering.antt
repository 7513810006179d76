-- The cases of a segment that is considered. Assumes nothing.
use Prim.Native.Nat.{ℕ, ◌-◌}
use mathlib.Core.Path.{◌≡◌, sym, ap, ◌∙◌}
use mathlib.Core.Bool.{Bool, true, false, ◌||◌}
use mathlib.Core.List.{List}
use lib.Ieee.{lt}
use Rattle.plane.specs.declared.Point.{Point}
use Rattle.crumbs.specs.declared.Crumb.{Crumb}
use Rattle.segments.specs.declared.costs.Nearest.{Nearest}
use Rattle.std.specs.Prelude.{Option, None, Float}
use Rattle.segments.specs.declared.costs.Ranking.{Ranking}
use Rattle.segments.specs.Cost.{cost_of}
use Rattle.segments.specs.declared.Stretch.{Stretch}
use Rattle.crumbs.specs.Line.{at}
use Rattle.segments.specs.Segment.{meets, nearest_on, cheaper, cost_within, considered}

module _ (line : List Crumb) (p : Point) (within : Stretch) (by : Ranking) (end : ℕ) (best : Option (Nearest × Float)) where
  abbrev cost : ℕ → Option Float
  cost = cost_within line p within by

  -- the best so far stays where the segment is out
  stays : cost end ≡ None → best ≡ considered line p cost end best
  unfolding considered cheaper
  stays e = sym (ap (cheaper best (nearest_on line p end)) e)

  module _ {a b : Crumb} (A : a ≡ at line (end - 1)) (B : b ≡ at line end) where
    module _ {m : Bool} (M : m ≡ (lt b.along within.floor || lt within.ceiling a.along)) where
      missed : m ≡ (lt (at line end).along within.floor || lt within.ceiling (at line (end - 1)).along)
      missed = rw (← A, ← B) M

      pub lies-out : m ≡ true → best ≡ considered line p cost end best
      unfolding cost_within
      lies-out t = let e = sym missed ∙ t in stays (rw (e, cost_within))

      module _ (t : m ≡ false) where
        within-is : cost end ≡ cost_of by (nearest_on line p end) (at line (end - 1)) (at line end)
        unfolding cost_within
        within-is = let e = sym missed ∙ t in rw (e, cost_within)

        pub lies-far : ((e : ℕ) → cost_of by (meets a b p e) a b ≡ None) → best ≡ considered line p cost end best
        unfolding nearest_on
        lies-far h =
            let o : cost_of by (nearest_on line p end) (at line (end - 1)) (at line end) ≡ None = rw (← A, ← B) (h end) in
            stays (within-is ∙ o)

        pub lies_in : {near : Nearest} {own : Option Float} {next : Option (Nearest × Float)} → near ≡ meets a b p end
            → own ≡ cost_of by near a b → next ≡ cheaper best near own → next ≡ considered line p cost end best
        unfolding considered nearest_on
        lies_in {near} {own} {next} N O e = let c = within-is in cc
