-- The rules of the breadcrumb keep what question 10 asks of it. Assumes nothing.
use Prim.Native.Nat.{ℕ, ◌≤◌}
use mathlib.Core.Path.{◌≡◌, refl}
use mathlib.Core.Bool.{true, ◌&&◌, and-eq-true_iff}
use mathlib.Core.List.{List, [], ◌∷◌, ◌++◌}
use lib.Dec.{T}
use lib.ListN.{length}
use lib.Ieee.{Float, binary32, fits}
use Rattle.plane.specs.declared.Point.{Point}
use Rattle.crumbs.specs.declared.Crumb.{Crumb}
use Rattle.crumbs.specs.Crumb.{point}
use Rattle.crumbs.specs.Choice.{Choice, end, leave, strike, last}
use Rattle.thin.proofs.Theorems.{thins-any}
use Rattle.crumbs.specs.Along.{crumb_of, along_to, along_behind, recorded_m, realong_behind, realong}
use Rattle.thin.specs.Crumb.{thinning}
use Rattle.trail.specs.Trail.{Track, add}
use Rattle.calls.specs.Questions.{place_fits, places_fit, along_fits, crumb_fits, crumbs_fit}
use Rattle.std.specs.Cmp.Derive.{both_true}
use Rattle.taken.proofs.Onward as onward
use Rattle.taken.proofs.Onward.{All}
use Rattle.taken.proofs.asked.Bounds.{Reaches, along-given, along-passes, along-start, along-step}

-- ---- crumbs that pass question 10
pub record Passes (c : Crumb) : Type 0 where
  pub place : place_fits (point c) ≡ true
  pub along : Reaches c.along

abbrev pub AllPass : List Crumb → Type 0
AllPass l = All Passes l

-- metres along that are values of binary32
abbrev pub Rounded : List Crumb → Type 0
Rounded [] = Unit {0}
Rounded (c ∷ l) = T (fits binary32 c.along) × Rounded l

pub crumbs-given : (l : List Crumb) → Rounded l → crumbs_fit l ≡ true → AllPass l
unfolding crumbs_fit crumb_fits
crumbs-given [] f e = tt
crumbs-given (c ∷ l) f e =
    let one = ((and-eq-true_iff (place_fits (point c) && along_fits c.along) (crumbs_fit l)).0 e).0 in (
      record {
        place = ((and-eq-true_iff (place_fits (point c)) (along_fits c.along)).0 one).0;
        along = along-given c.along f.0 ((and-eq-true_iff (place_fits (point c)) (along_fits c.along)).0 one).1;
      },
      crumbs-given l f.1 ((and-eq-true_iff (place_fits (point c) && along_fits c.along) (crumbs_fit l)).0 e).1,
    )

pub crumbs-pass : (l : List Crumb) → AllPass l → crumbs_fit l ≡ true
unfolding crumbs_fit crumb_fits
crumbs-pass [] h = refl
crumbs-pass (c ∷ l) h = both_true (both_true h.0.place (along-passes c.along h.0.along)) (crumbs-pass l h.1)

pass-snoc : (l : List Crumb) (c : Crumb) → AllPass l → Passes c → AllPass (l ++ c ∷ [])
pass-snoc [] c h k = (k, tt)
pass-snoc (a ∷ l) c h k = (h.0, pass-snoc l c h.1 k)

-- one more behind the last
next : (a : Crumb) (p : Point) → Passes a → place_fits p ≡ true → Passes (crumb_of p (along_to a p))
unfolding along_to
next a p A P = record { place = P; along = along-step a.along (point a) p A.along A.place P }

last-passes : (l : List Crumb) (p : Point) → AllPass l → place_fits p ≡ true → Passes (crumb_of p (along_behind (last l) p))
unfolding along_behind
last-passes [] p h P = record { place = P; along = along-start }
last-passes (a ∷ []) p h P = next a p h.0 P
last-passes (a ∷ b ∷ l) p h P = last-passes (b ∷ l) p h.1 P

pass-put : (l : List Crumb) (p : Point) → AllPass l → place_fits p ≡ true → AllPass (l ++ crumb_of p (recorded_m l p) ∷ [])
unfolding recorded_m
pass-put l p h P = pass-snoc l _ h (last-passes l p h P)

-- thinned
pass-choice : {m l : List Crumb} → Choice m l → AllPass l → AllPass m
pass-choice end h = tt
pass-choice (leave c) h = (h.0, pass-choice c h.1)
pass-choice (strike c) h = pass-choice c h.1

pass-behind : (a : Crumb) (l : List Crumb) → Passes a → AllPass l → AllPass (realong_behind a l)
unfolding realong_behind
pass-behind a [] A h = tt
pass-behind a (b ∷ l) A h = let c = next a (point b) A h.0.place in (c, pass-behind (crumb_of (point b) (along_to a (point b))) l c h.1)

pass-realong : (l : List Crumb) → AllPass l → AllPass (realong l)
unfolding realong
pass-realong [] h = tt
pass-realong (a ∷ l) h = (h.0, pass-behind a l h.0 h.1)

-- ---- places that wait
abbrev pub Waits : Point → Type 0
Waits p = place_fits p ≡ true

pub window-given : (l : List Point) → places_fit l ≡ true → All Waits l
unfolding places_fit
window-given [] e = tt
window-given (p ∷ l) e = let both = (and-eq-true_iff (place_fits p) (places_fit l)).0 e in (both.0, window-given l both.1)

pub window-passes : (l : List Point) → All Waits l → places_fit l ≡ true
unfolding places_fit
window-passes [] h = refl
window-passes (p ∷ l) h = both_true h.0 (window-passes l h.1)

-- ---- the breadcrumb
abbrev pub Recorded : ℕ → Track → Type 0
Recorded C t = onward.Recorded AllPass Waits C t

abbrev pub Onward : Track → Track → Type 0
Onward t u = onward.Onward AllPass Waits t u

module _ (C : ℕ) (least : 3 ≤ C) where
  thinned : (x : Float) (l : List Crumb) → length l ≤ C → AllPass l → AllPass (realong (thinning C x l).left)
  thinned x l few h = pass-realong _ (pass-choice (thins-any C least x l few).choice h)

  pub add-onward : (p : Point) (t : Track) → Recorded C t → place_fits p ≡ true → Onward t (add C p t).track
  add-onward = onward.add-onward C least thinned (λ l p few h P. pass-put l p h P)
