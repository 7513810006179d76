-- What lies too far off to have a cost, by its square. Assumes nothing.
use Prim.Native.Nat.{ℕ, ◌-◌}
use mathlib.Core.Path.{◌≡◌, refl, sym, subst}
use mathlib.Core.Bool.{Bool, true, false, not, true≢false}
use mathlib.Core.List.{List}
use lib.Dec.{T}
use lib.Ieee.{Float, binary32, of_bits, lt, le, fits}
use lib.Ieee.Bits.{of_bits-fits}
use Rattle.binary32.specs.Arithmetic.{constant}
use Rattle.binary32.specs.Root.{root}
use Rattle.plane.specs.declared.Point.{Point}
use Rattle.std.specs.Prelude.{Option, None, ℕ}
use Rattle.plane.specs.Plane.{off_segment}
use Rattle.crumbs.specs.declared.Crumb.{Crumb}
use Rattle.crumbs.specs.Crumb.{point}
use Rattle.segments.specs.declared.costs.Ranking.{Ranking}
use Rattle.segments.specs.declared.costs.Ranking.TheVariants.{On, Ahead}
use Rattle.segments.specs.CostConstants.{search_m}
use Rattle.segments.specs.Cost.{on, ahead, cost_of}
use Rattle.plane.specs.Square.{off_square}
use Rattle.plane.proofs.squares.Far.{far-off, off-fits, off-not-below, off-is}
use Rattle.binary32.proofs.roots.Monotone.{clear}
use Rattle.crumbs.specs.Line.{at}
use Rattle.segments.specs.Segment.{meets, nearest_on}
use Rattle.segments.specs.Square.{square_on}

-- ---- a segment's square
module _ (line : List Crumb) (p : Point) (end : ℕ) where
  pub on-is : (nearest_on line p end).off ≡ root binary32 (square_on line p end)
  unfolding nearest_on meets square_on off_segment
  on-is = off-is p (point (at line (end - 1))) (point (at line end))

  pub on_fits : T (fits binary32 (square_on line p end))
  unfolding square_on
  on_fits = off-fits p (point (at line (end - 1))) (point (at line end))

  pub on-not-below : T (clear (square_on line p end))
  unfolding square_on
  on-not-below = off-not-below p (point (at line (end - 1))) (point (at line end))

-- ---- 626.0
abbrev bar : Float
bar = of_bits binary32 0x441c_8000

above : lt search_m (root binary32 bar) ≡ true
unfolding search_m constant of_bits root lt
above = refl

pub flip : (b : Bool) → not b ≡ true → b ≡ false
flip true h = absurd (true≢false (sym h))
flip false h = refl

pub flop : (b : Bool) → not b ≡ false → b ≡ true
flop true h = refl
flop false h = absurd (true≢false h)

module _ (by : Ranking) (p : Point) (a b : Crumb) {s : Float} (S : s ≡ off_square p (point a) (point b)) where
  off_at : (end : ℕ) → not (lt s bar) ≡ true → le (meets a b p end).off search_m ≡ false
  unfolding meets off_segment
  off_at end h = far-off bar search_m (of_bits-fits binary32 0x441c_8000) above p (point a) (point b)
      (subst (λ (z : Float). lt z bar ≡ false) S (flip (lt s bar) h))

  pub far-on : {reached : Float} {heading : Option ℕ} → by ≡ On reached heading → not (lt s bar) ≡ true → (end : ℕ)
      → cost_of by (meets a b p end) a b ≡ None
  unfolding cost_of on
  far-on {reached} {heading} e h end = let k = off_at end h in rw (e, k, on)

  pub far-ahead : {heading : Option ℕ} → by ≡ Ahead heading → not (lt s bar) ≡ true → (end : ℕ) → cost_of by (meets a b p end) a b ≡ None
  unfolding cost_of ahead
  far-ahead {heading} e h end = let k = off_at end h in rw (e, k, ahead)

pub not-told : {A : Type 0} → false ≡ true → A
not-told e = absurd (true≢false (sym e))
