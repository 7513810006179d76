-- Lines laid down crumb by crumb: every place is one of the plane, and along grows by 2^27 m a crumb at most. What the rules do to them.
-- Assumes nothing.
use Prim.Native.Nat.{ℕ, zero, suc, ◌+◌, ◌≤◌, ◌<◌}
use native.Mathlib.Omega.{arith}
use mathlib.Core.Path.{◌≡◌, refl, subst}
use mathlib.Core.Bool.{true}
use mathlib.Core.List.{List, [], ◌∷◌, ◌++◌}
use Rattle.std.specs.Prelude.{None}
use lib.ListN.{length, take}
use lib.Ieee.{Float}
use Rattle.plane.specs.declared.Point.{Point}
use Rattle.plane.proofs.Place.{Place}
use Rattle.crumbs.specs.declared.Crumb.{Crumb}
use Rattle.crumbs.specs.Crumb.{point}
use Rattle.crumbs.specs.Choice.{Choice, end, leave, strike, first, last}
use Rattle.thin.specs.Crumb.{thinning}
use Rattle.thin.proofs.Theorems.{thins-any}
use Rattle.crumbs.specs.Along.{crumb_of, along_to, along_behind, recorded_m, realong_behind, realong}
use Rattle.crumbs.specs.Line.{at}
use Rattle.calls.specs.Questions.{crumb_fits, crumbs_fit}
use Rattle.taken.proofs.Bounds.{Along, steps, far, along-start, along-step, along-far, along-fits, place-fits}

-- the crumb at place i of a line
pub record CrumbAt (i : ℕ) (c : Crumb) : Type 0 where
  pub place : Place (point c)
  pub along : Along (steps i) c.along

-- crumbs that follow one another, the first at place i of its line
abbrev pub Laid : ℕ → List Crumb → Type 0
Laid i [] = Unit {0}
Laid i (c ∷ l) = CrumbAt i c × Laid (suc i) l

-- all of a list
abbrev pub Placed : List Crumb → Type 0
Placed [] = Unit {0}
Placed (c ∷ l) = Place (point c) × Placed l

-- the most crumbs of any line
abbrev pub most : ℕ
most = 4096

-- ---- one of them, wherever it is
pub record InPlane (c : Crumb) : Type 0 where
  pub place : Place (point c)
  pub along : Along far c.along

pub in-plane : (i : ℕ) (c : Crumb) → i ≤ most → CrumbAt i c → InPlane c
in-plane i c few h = record { place = h.place; along = along-far i c.along few h.along }

pub laid-at : (i j : ℕ) (l : List Crumb) → i + length l ≤ most → Laid i l → j < length l → InPlane (at l j)
unfolding at
laid-at i j [] few h there = absurd (omega arith)
laid-at i zero (c ∷ l) few h there = in-plane i c (omega arith) h.0
laid-at i (suc j) (c ∷ l) few h there = laid-at (suc i) j l (omega arith) h.1 (omega arith)

-- ---- a front part
pub laid-take : (i n : ℕ) (l : List Crumb) → Laid i l → Laid i (take n l)
laid-take i zero l h = tt
laid-take i (suc n) [] h = tt
laid-take i (suc n) (c ∷ l) h = (h.0, laid-take (suc i) n l h.1)

-- ---- one more
pub next : (i : ℕ) (a : Crumb) (p : Point) → i < most → CrumbAt i a → Place p → CrumbAt (suc i) (crumb_of p (along_to a p))
unfolding along_to
next i a p few A P = record { place = P; along = along-step i a.along (point a) p few A.along A.place P }

behind : (i : ℕ) (a : Crumb) (l : List Crumb) (p : Point) → i + length l < most → CrumbAt i a → Laid (suc i) l → Place p
    → Laid (suc i) (l ++ crumb_of p (along_behind (last (a ∷ l)) p) ∷ [])
unfolding along_behind
behind i a [] p few A h P = (next i a p (omega arith) A P, tt)
behind i a (b ∷ l) p few A h P = (h.0, behind (suc i) b l p (omega arith) h.0 h.1 P)

pub start : (p : Point) → Place p → CrumbAt 0 (crumb_of p (along_behind None p))
unfolding along_behind
start p P = record { place = P; along = along-start }

pub laid-put : (l : List Crumb) (p : Point) → length l ≤ most → Laid 0 l → Place p → Laid 0 (l ++ crumb_of p (recorded_m l p) ∷ [])
unfolding recorded_m
laid-put [] p few h P = (start p P, tt)
laid-put (a ∷ l) p few h P = (h.0, behind 0 a l p (omega arith) h.0 h.1 P)

-- ---- thinned
placed-choice : {m l : List Crumb} (i : ℕ) → Choice m l → Laid i l → Placed m
placed-choice i end h = tt
placed-choice i (leave c) h = (h.0.place, placed-choice (suc i) c h.1)
placed-choice i (strike c) h = placed-choice (suc i) c h.1

realong-behind : (i : ℕ) (a : Crumb) (l : List Crumb) → i + length l ≤ most → CrumbAt i a → Placed l → Laid (suc i) (realong_behind a l)
unfolding realong_behind
realong-behind i a [] few A h = tt
realong-behind i a (b ∷ l) few A h =
    let c = next i a (point b) (omega arith) A h.0 in
    (c, realong-behind (suc i) (crumb_of (point b) (along_to a (point b))) l (omega arith) c h.1)

realong-laid : (m l : List Crumb) → length m ≤ most → first m ≡ first l → Placed m → Laid 0 l → Laid 0 (realong m)
unfolding realong
realong-laid [] l few e p h = tt
realong-laid (a ∷ m) [] few e p h = cc
realong-laid (a ∷ m) (b ∷ l) few e p h =
    let i : b ≡ a = cc in
    let A : CrumbAt 0 a = subst (λ c. CrumbAt 0 c) i h.0 in
    (A, realong-behind 0 a m (omega arith) A p.1)

pub laid-thin : (C : ℕ) (t : Float) (l : List Crumb) → 3 ≤ C → C ≤ most → length l ≤ C → Laid 0 l → Laid 0 (realong (thinning C t l).left)
laid-thin C t l least room held h =
    let w = thins-any C least t l held in
    realong-laid (thinning C t l).left l (omega (arith, w.few-left)) w.begins (placed-choice 0 w.choice h) h

-- ---- what question 10 says of them
crumb-fits : (c : Crumb) → InPlane c → crumb_fits c ≡ true
unfolding crumb_fits
crumb-fits c h = rw (place-fits (point c) h.place) (along-fits c.along h.along)

pub laid-fits : (i : ℕ) (l : List Crumb) → i + length l ≤ most → Laid i l → crumbs_fit l ≡ true
unfolding crumbs_fit
laid-fits i [] few h = refl
laid-fits i (c ∷ l) few h = rw (crumb-fits c (in-plane i c (omega arith) h.0)) (laid-fits (suc i) l (omega arith) h.1)
