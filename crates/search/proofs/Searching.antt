-- What the loops of the searches carry on: the ends still to be considered decide. Assumes nothing.
use Prim.Native.Nat.{ℕ, zero, suc, ◌+◌, ◌-◌, ◌≤◌, ◌<◌}
use mathlib.Core.Path.{◌≡◌, refl, sym, ap, ◌∙◌}
use mathlib.Core.List.{List}
use native.Mathlib.Omega.{arith}
use Rattle.plane.specs.declared.Point.{Point}
use Rattle.crumbs.specs.declared.Crumb.{Crumb}
use Rattle.search.specs.declared.Range.{Range}
use Rattle.std.specs.Prelude.{Option, None, Float}
use Rattle.segments.specs.declared.costs.Nearest.{Nearest}
use Rattle.segments.specs.declared.Stretch.{Stretch}
use Rattle.segments.specs.declared.costs.Ranking.TheVariants.{Plain}
use Rattle.segments.specs.Segment.{considered, cost_within, found}
use Rattle.search.specs.Search.{rising, falling, count, anywhere, nearest_on_breadcrumb}

-- ends rise: those from `end` on are left
pub record Rises (consider : ℕ → Option (Nearest × Float) → Option (Nearest × Float)) (ends : Range) (best : Option (Nearest × Float))
    (end : ℕ) : Type 0 where
  pub same : rising consider (ends.to + 1 - end) end best ≡ rising consider (count ends) ends.from None
  pub from : ends.from ≤ end

-- ends fall: those from `end` down are left
pub record Falls (consider : ℕ → Option (Nearest × Float) → Option (Nearest × Float)) (ends : Range) (best : Option (Nearest × Float))
    (end : ℕ) : Type 0 where
  pub same : falling consider (end + 1 - ends.from) end best ≡ falling consider (count ends) ends.to None
  pub upto : end ≤ ends.to

module _ {consider : ℕ → Option (Nearest × Float) → Option (Nearest × Float)} {ends : Range} where
  pub rises-start : Rises consider ends None ends.from
  rises-start = record { same = refl; from = omega arith }

  pub falls-start : Falls consider ends None ends.to
  falls-start = record { same = refl; upto = omega arith }

  pub falls-from : {end : ℕ} → end ≡ ends.to → Falls consider ends None end
  falls-from e = record { same = ap (λ k. falling consider (k + 1 - ends.from) k None) e; upto = omega arith }

  module _ {best : Option (Nearest × Float)} {end : ℕ} where
    pub rises-on : {next : Option (Nearest × Float)} → Rises consider ends best end → end ≤ ends.to → next ≡ consider end best
        → Rises consider ends next (end + 1)
    unfolding rising
    rises-on v more e =
        let n : ends.to + 1 - end ≡ suc (ends.to + 1 - (end + 1)) = omega arith in
        record {
          same =
              ap (rising consider (ends.to + 1 - (end + 1)) (end + 1)) e
              ∙ (sym (ap (λ k. rising consider k end best) n) ∙ v.same);
          from = omega (arith, v.from);
        }

    pub rises-out : Rises consider ends best end → ends.to < end → best ≡ rising consider (count ends) ends.from None
    unfolding rising
    rises-out v past =
        let n : ends.to + 1 - end ≡ zero = omega arith in
        sym (ap (λ k. rising consider k end best) n) ∙ v.same

    pub falls-on : {next : Option (Nearest × Float)} → Falls consider ends best end → 1 ≤ ends.from → ends.from ≤ end
        → next ≡ consider end best
        → Falls consider ends next (end - 1)
    unfolding falling
    falls-on v first more e =
        let n : end + 1 - ends.from ≡ suc (end - 1 + 1 - ends.from) = omega arith in
        record {
          same =
              ap (falling consider (end - 1 + 1 - ends.from) (end - 1)) e
              ∙ (sym (ap (λ k. falling consider k end best) n) ∙ v.same);
          upto = omega (arith, v.upto);
        }

    pub falls_out : Falls consider ends best end → end < ends.from → best ≡ falling consider (count ends) ends.to None
    unfolding falling
    falls_out v past =
        let n : end + 1 - ends.from ≡ zero = omega arith in
        sym (ap (λ k. falling consider k end best) n) ∙ v.same

-- what the ends of a breadcrumb give, on a stretch that is all of f32's range
pub breadcrumb-is : (line : List Crumb) (p : Point) (ends : Range) {within : Stretch} {r : Option Nearest}
    → r ≡ found (rising (considered line p (cost_within line p within Plain)) (count ends) ends.from None) → within ≡ anywhere
    → r ≡ nearest_on_breadcrumb line p ends
unfolding nearest_on_breadcrumb
breadcrumb-is line p ends R W =
    R ∙ ap (λ w. found (rising (considered line p (cost_within line p w Plain)) (count ends) ends.from None)) W
