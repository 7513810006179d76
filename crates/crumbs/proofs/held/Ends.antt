-- The first and the last crumb of a list, and what is measured from them. Assumes nothing.
use Prim.Native.Nat.{suc, ◌-◌, ◌<◌}
use mathlib.Core.Path.{◌≡◌, refl, sym, ap, ◌∙◌}
use mathlib.Core.List.{List, [], ◌∷◌}
use native.Mathlib.Omega.{arith}
use lib.ListN.{length}
use Rattle.std.proofs.Common.{Option, Some, None, MatchOption, Float}
use Rattle.binary32.specs.Limits.{plus_zero}
use Rattle.plane.specs.declared.Point.{Point}
use Rattle.crumbs.specs.declared.Crumb.{Crumb}
use Rattle.crumbs.specs.Crumb.{point}
use Rattle.crumbs.specs.Line.{at}
use Rattle.crumbs.specs.Choice.{first, last}
use Rattle.crumbs.specs.Along.{start_of, recorded_m, along_behind, along_to}

pub first-at : (l : List Crumb) → 0 < length l → first l ≡ Some (at l 0)
unfolding at
first-at [] h = absurd (omega arith)
first-at (a ∷ l) h = refl

pub last-at : (l : List Crumb) → 0 < length l → last l ≡ Some (at l (length l - 1))
unfolding at
last-at [] h = absurd (omega arith)
last-at (a ∷ []) h = refl
last-at (a ∷ b ∷ l) h =
    let e : length (a ∷ b ∷ l) - 1 ≡ suc (length (b ∷ l) - 1) = omega arith in
    last-at (b ∷ l) (omega arith) ∙ sym (ap (λ i. Some (at (a ∷ b ∷ l) i)) e)

pub no-first : (l : List Crumb) → length l ≡ 0 → first l ≡ None
no-first [] h = refl
no-first (a ∷ l) h = absurd (omega arith)

pub no-last : (l : List Crumb) → length l ≡ 0 → last l ≡ None
no-last [] h = refl
no-last (a ∷ l) h = absurd (omega arith)

pub starts-is : (l : List Crumb) (p : Point) {a : Option Crumb} {r : Point} → a ≡ first l → MatchOption a (r ≡ p) (λ c. r ≡ point c)
    → r ≡ start_of l p
unfolding start_of
starts-is [] p e h = rw e at h
starts-is (b ∷ l) p e h = rw e at h

pub recorded-is : (l : List Crumb) (p : Point) {a : Option Crumb} {r : Float} {P : Crumb → Type 0} → a ≡ last l
    → MatchOption a (r ≡ plus_zero) P → ((c : Crumb) → P c → r ≡ along_to c p) → r ≡ recorded_m l p
unfolding recorded_m along_behind
recorded-is l p {a} {r} {P} e h f = at-case a h ∙ ap (λ o. along_behind o p) e
  where
    at-case : (o : Option Crumb) → MatchOption o (r ≡ plus_zero) P → r ≡ along_behind o p
    at-case None k = k
    at-case (Some c) k = f c k
