-- The rules of the breadcrumb keep it within its bounds. Assumes nothing.
use Prim.Native.Nat.{ℕ, ◌≤◌, ◌<◌}
use native.Mathlib.Omega.{arith}
use native.Mathlib.Decide.{ℕ_discrete}
use mathlib.Core.Path.{◌≡◌, refl}
use mathlib.Core.Bool.{true, false, ◌||◌}
use mathlib.Core.List.{List, [], ◌∷◌, ◌++◌}
use borrow.Author.Tests.{eqb-false, lt-ltb, le-leb, eq-eqb, ne_eqb}
use lib.Dec.{eqb, leb}
use lib.ListN.{length, take, length-append, length-take}
use lib.Ieee.{Float}
use Rattle.plane.specs.declared.Point.{Point}
use Rattle.plane.proofs.Place.{Place}
use Rattle.crumbs.specs.declared.Crumb.{Crumb}
use Rattle.crumbs.specs.Along.{crumb_of, recorded_m, realong}
use Rattle.thin.specs.Crumb.{thinning}
use Rattle.trail.specs.Notes.{Note, thinned_in}
use Rattle.trail.specs.Trail.{retrace_fixes, Track, with_crumbs, fresh, keep, flush, add, reset_track}
use Rattle.trail.proofs.Theorems.{Holding, MayKeep, nothing, one, Keeps, full}
use Rattle.trail.proofs.Theorems as trail
use Rattle.follow.specs.Engage.{forgotten}
use Rattle.joining.specs.Join.{with_retrace}
use Rattle.joining.specs.Retrace.{len_before}
use Rattle.calls.specs.Questions.{places_fit, retrace_fits}
use Rattle.taken.proofs.Tests.{one_of}
use Rattle.taken.proofs.Bounds.{place-fits}
use Rattle.taken.proofs.Laid.{most, Laid, laid-take, laid-put, laid-thin}
use Rattle.taken.proofs.Onward as onward
use Rattle.taken.proofs.Onward.{All, Counted, uncounted}
use Rattle.journal.proofs.Calls.{new-tolerance}

-- ---- places that wait
pub places-fit : (l : List Point) → All Place l → places_fit l ≡ true
unfolding places_fit
places-fit [] h = refl
places-fit (p ∷ l) h = rw (place-fits p h.0) (places-fit l h.1)

-- ---- the breadcrumb
abbrev pub Recorded : ℕ → Track → Type 0
Recorded C t = onward.Recorded (Laid 0) Place C t

abbrev pub Onward : Track → Track → Type 0
Onward t u = onward.Onward (Laid 0) Place t u

module _ (C : ℕ) (least : 3 ≤ C) (room : C ≤ most) where
  thinned : (x : Float) (l : List Crumb) → length l ≤ C → Laid 0 l → Laid 0 (realong (thinning C x l).left)
  thinned x l few h = laid-thin C x l least room few h

  behind : (l : List Crumb) (p : Point) → length l ≤ C → Laid 0 l → Place p → Laid 0 (l ++ crumb_of p (recorded_m l p) ∷ [])
  behind l p few h P = laid-put l p (omega (arith, few)) h P

  pub keep-onward : (p : Point) (t : Track) → Recorded C t → Place p → Onward t (keep C p t).track
  keep-onward = onward.keep-onward C least thinned behind

  pub flush-onward : (t : Track) → Recorded C t → Onward t (flush C t).track
  flush-onward = onward.flush-onward C least thinned behind

  pub add-onward : (p : Point) (t : Track) → Recorded C t → Place p → Onward t (add C p t).track
  add-onward = onward.add-onward C least thinned behind

-- ---- nothing recorded, and what is cut off or forgotten
module _ (C : ℕ) where
  pub fresh-recorded : Recorded C fresh
  unfolding fresh
  fresh-recorded =
      record { sound = record { held = omega arith; waiting = omega arith; tolerance = new-tolerance }; crumbs = tt; waiting = tt }

  pub reset-recorded : (t : Track) → Recorded C (reset_track t).track
  unfolding reset_track
  reset-recorded t =
      record { sound = record { held = omega arith; waiting = omega arith; tolerance = new-tolerance }; crumbs = tt; waiting = tt }

  -- the first n crumbs, with nothing that waits and no turn-round
  pub cut-recorded : (n : ℕ) (t : Track) → Recorded C t → Recorded C (with_crumbs (take n t.crumbs) (forgotten t))
  unfolding forgotten
  cut-recorded n t r =
      record {
        sound = record { held = rw length-take (omega (arith, r.sound.held)); waiting = omega arith; tolerance = r.sound.tolerance };
        crumbs = laid-take 0 n t.crumbs r.crumbs;
        waiting = tt;
      }

  pub forgotten-recorded : (t : Track) → Recorded C t → Recorded C (forgotten t)
  unfolding forgotten
  forgotten-recorded t r =
      record {
        sound = record { held = r.sound.held; waiting = omega arith; tolerance = r.sound.tolerance };
        crumbs = r.crumbs;
        waiting =
            tt;
      }

  pub retrace-recorded : (n len : ℕ) (t : Track) → Recorded C t → Recorded C (with_retrace n len t)
  unfolding with_retrace
  retrace-recorded n len t r =
      record {
        sound = record { held = r.sound.held; waiting = r.sound.waiting; tolerance = r.sound.tolerance };
        crumbs =
            r.crumbs;
        waiting = r.waiting;
      }

pub fresh-counted : Counted fresh
unfolding fresh
fresh-counted = uncounted _ refl

pub reset-counted : (t : Track) → Counted (reset_track t).track
unfolding reset_track
reset-counted t = uncounted _ refl

pub forgotten-none : (t : Track) → (forgotten t).retrace ≡ 0
unfolding forgotten
forgotten-none t = refl

-- ---- a turn-round counted
pub none-counted : (len : ℕ) (t : Track) → Counted (with_retrace 0 len t)
unfolding with_retrace
none-counted len t = uncounted _ refl

before-held : (t : Track) → Counted t → len_before t ≤ length t.crumbs
unfolding len_before
before-held t k = one_of (λ n. n ≤ length t.crumbs) (eqb t.retrace 0) (λ e. omega arith) (λ e. k.back (eqb-false _ _ e))

pub more-counted : (n : ℕ) (t : Track) → n < retrace_fixes → Counted t → Counted (with_retrace n (len_before t) t)
unfolding with_retrace
more-counted n t few k = record { few = few; back = λ h. before-held t k }

pub retrace-fits : (t : Track) → Counted t → retrace_fits t ≡ true
unfolding retrace_fits
retrace-fits t k = rw (lt-ltb _ _ k.few) (by (ℕ_discrete t.retrace 0))
  where
    by : Dec (t.retrace ≡ 0) → (eqb t.retrace 0 || leb t.retrace_len (length t.crumbs)) ≡ true
    by (yes e) = rw (eq-eqb _ _ e)
    by (no ne) = rw (ne_eqb _ _ ne) (le-leb _ _ (k.back ne))

-- ---- where no thinning is noted, no crumb is gone
keeps-grows : (C : ℕ) (p : Point) (x y : Holding) (notes : List Note) → Keeps C p x y notes → thinned_in notes ≡ false
    → length x.crumbs ≤ length y.crumbs
keeps-grows C p x y notes (trail.room c e ne) t = simp length-append (omega arith)
keeps-grows C p x y notes (full z n c e is leaves) t = cc

pub grows : (C : ℕ) (x y : Holding) (notes : List Note) → MayKeep C x y notes → thinned_in notes ≡ false
    → length x.crumbs ≤ length y.crumbs
grows C x y notes nothing t = omega arith
grows C x y notes (one p k) t = keeps-grows C p x y notes k t
