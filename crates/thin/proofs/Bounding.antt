-- What the bounds say of a place between. Assumes nothing.
use mathlib.Core.Path.{◌≡◌, refl, sym, ap, ◌∙◌, subst}
use mathlib.Core.Bool.{Bool, true, false, not, false≢true}
use lib.Dec.{T}
use lib.Ieee.{Float, nan, inf, fin, binary32, lt, eq, le, fits}
use Rattle.binary32.specs.Root.{root}
use Rattle.plane.specs.declared.Point.{Point}
use Rattle.plane.specs.Plane.{off_segment}
use Rattle.plane.specs.Square.{off_square}
use Rattle.binary32.proofs.roots.Monotone.{clear}
use Rattle.binary32.proofs.roots.Bounds.{root-accept, root-reject}
use Rattle.plane.proofs.squares.Far.{off-fits, off-not-below, off-is}
use Rattle.thin.specs.Bounds.{Under, Over}

no-most : (s : Float) → le s nan ≡ true → ⊥
unfolding le lt eq
no-most nan h = absurd (false≢true h)
no-most (inf s) h = absurd (false≢true h)
no-most (fin s m e) h = absurd (false≢true h)

no-least : (s : Float) → le nan s ≡ true → ⊥
unfolding le lt eq
no-least s h = absurd (false≢true h)

module _ {most x : Float} where
  pub under-found : {r : Float} → T (fits binary32 x) → r ≡ root binary32 x → le r most ≡ true → Under most x
  under-found t e h = record { held = t; at = λ s k. subst (λ (z : Float). le z most ≡ true) e h }

  pub over-found : {r : Float} → T (fits binary32 x) → r ≡ root binary32 x → lt most r ≡ true → Over most x
  over-found t e h = record { held = t; at = λ s k. subst (λ (z : Float). lt most z ≡ true) e h }

module _ {most x : Float} (e : x ≡ nan) where
  pub under_none : Under most x
  unfolding fits
  under_none = subst (Under most) (sym e) (record { held = tt; at = λ s k. absurd (no-most s k) })

  pub over_none : Over most x
  unfolding fits
  over_none = subst (Over most) (sym e) (record { held = tt; at = λ s k. absurd (no-least s k) })

-- how far p is off the segment is the root of that square
module _ (p a b : Point) {s : Float} (S : s ≡ off_square p a b) where
  root_is : root binary32 s ≡ off_segment p a b
  root_is = ap (root binary32) S ∙ sym (off-is p a b)

  s-fits : T (fits binary32 s)
  s-fits = subst (λ (z : Float). T (fits binary32 z)) (sym S) (off-fits p a b)

  s-clear : T (clear s)
  s-clear = subst (λ (z : Float). T (clear z)) (sym S) (off-not-below p a b)

  module _ (most : Float) where
    pub surely-in : {lo : Float} → Under most lo → le s lo ≡ true → false ≡ not (le (off_segment p a b) most)
    surely-in {lo} u h =
        let k = root-accept binary32 s lo most s-fits u.held s-clear h (u.at s h) in
        sym (ap (λ (z : Float). not (le z most)) (sym root_is) ∙ ap not k)

    pub surely-out : {hi : Float} → Over most hi → le hi s ≡ true → true ≡ not (le (off_segment p a b) most)
    surely-out {hi} u h =
        let k = root-reject binary32 s hi most s-fits u.held h (u.at s h) in
        sym (ap (λ (z : Float). not (le z most)) (sym root_is) ∙ ap not k)

    pub by-root : {r : Float} {t : Bool} → r ≡ root binary32 s → t ≡ not (le r most) → t ≡ not (le (off_segment p a b) most)
    by-root R e = e ∙ ap (λ (z : Float). not (le z most)) (R ∙ root_is)

pub was-true : (b : Bool) → not b ≡ false → b ≡ true
was-true true k = refl
was-true false k = absurd (subst (λ (c : Bool). T c) k tt)

-- what the test of a place that was read says of the rule's
module _ (most : Float) {t : Bool} {p a b x y z : Point} (e : t ≡ not (le (off_segment p a b) most)) (f : p ≡ x) (g : a ≡ y)
    (h : b ≡ z) where
  read : t ≡ not (le (off_segment x y z) most)
  read = cc

  pub stays : t ≡ false → le (off_segment x y z) most ≡ true
  stays n = was-true (le (off_segment x y z) most) (sym read ∙ n)

  pub leaves : t ≡ true → le (off_segment x y z) most ≡ false
  leaves n = flip (le (off_segment x y z) most) (sym read ∙ n)
    where
      flip : (b : Bool) → not b ≡ true → b ≡ false
      flip true k = absurd (false≢true k)
      flip false k = refl
