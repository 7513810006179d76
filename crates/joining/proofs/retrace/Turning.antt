-- Riding back along the breadcrumb: what is found lies on it. Assumes nothing.
use mathlib.Core.Path.{◌≡◌, refl}
use Prim.Native.Nat.{ℕ, ◌-◌, ◌≤◌, ◌<◌}
use native.Mathlib.Omega.{arith}
use mathlib.Core.Bool.{Bool, true, false, cond}
use mathlib.Core.List.{List}
use lib.Dec.{leb}
use borrow.Author.Tests.{leb-true}
use Rattle.plane.specs.declared.Point.{Point}
use Rattle.std.specs.Prelude.{Option, Some, None, ℕ}
use Rattle.crumbs.specs.declared.Crumb.{Crumb}
use Rattle.segments.specs.declared.costs.Nearest.{Nearest}
use Rattle.search.specs.Search.{nearest_on_breadcrumb}
use Rattle.search.proofs.Theorems.{breadcrumb-met}
use Rattle.joining.specs.Retrace.{nearest_before}
use Rattle.segments.specs.Inner.{InLine}

-- what is found before the crumb n lies on the line
pub before-in-line : (l : List Crumb) (p : Point) (n len : ℕ) → n ≤ len → InLine len (nearest_before l p n)
unfolding nearest_before
before-in-line l p n len few = by (nearest_before l p n) refl
  where
    within : (near : Nearest) (b : Bool) → leb 2 n ≡ b
        → cond b (nearest_on_breadcrumb l p (record { from = 1; to = n - 1 })) None ≡ Some near → (1 ≤ near.end) × (near.end < len)
    within near true t f =
        let m = breadcrumb-met l p (record { from = 1; to = n - 1 }) near f in
        let two : 2 ≤ n = leb-true 2 n t in
        (m.from, omega (arith, m.to, two))
    within near false t f = let z : ◌≡◌ {A = ℕ} 0 1 = cc in absurd (omega arith)

    by : (best : Option Nearest) → nearest_before l p n ≡ best → InLine len best
    by None e = tt
    by (Some near) e = within near (leb 2 n) refl e
