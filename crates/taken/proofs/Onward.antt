-- What the rules of the breadcrumb make of it, beside that it stays sound: K of its crumbs, Q of each place that waits, and the turn-round
-- counted on it. Assumes nothing.
use Prim.Native.Nat.{ℕ, ◌≤◌, ◌<◌}
use native.Mathlib.Omega.{arith}
use mathlib.Core.Path.{◌≡◌, refl, subst}
use mathlib.Core.List.{List, [], ◌∷◌, ◌++◌}
use Rattle.std.specs.Prelude.{Some}
use lib.ListN.{length, length-append}
use lib.Ieee.{Float}
use Rattle.plane.specs.declared.Point.{Point}
use Rattle.crumbs.specs.declared.Crumb.{Crumb}
use Rattle.crumbs.specs.Choice.{last}
use Rattle.crumbs.specs.Along.{crumb_of, recorded_m, realong}
use Rattle.thin.specs.Crumb.{thinning}
use Rattle.thin.proofs.Theorems.{thins-any}
use Rattle.trail.specs.Trail.{retrace_fixes, Track, thin, put, keep, flush, wait, add}
use Rattle.trail.proofs.Theorems.{Sound, length-realong}
use Rattle.journal.proofs.Walking.{Steps, keeps, flushes, adds}

-- ---- each of a list
abbrev pub All : {A : Type 0} → (A → Type 0) → List A → Type 0
All Q [] = Unit {0}
All Q (x ∷ l) = Q x × All Q l

module _ (Q : Point → Type 0) where
  all-last : (l : List Point) (p : Point) → All Q l → last l ≡ Some p → Q p
  all-last [] p h e = cc
  all-last (q ∷ []) p h e = let i : q ≡ p = cc in subst Q i h.0
  all-last (q ∷ r ∷ l) p h e = all-last (r ∷ l) p h.1 e

  all-behind : (l : List Point) (p : Point) → All Q l → Q p → All Q (l ++ p ∷ [])
  all-behind [] p h k = (k, tt)
  all-behind (q ∷ l) p h k = (h.0, all-behind l p h.1 k)

-- ---- a turn-round
pub record Counted (t : Track) : Type 0 where
  pub few : t.retrace < retrace_fixes
  pub back : (t.retrace ≡ 0 → ⊥) → t.retrace_len ≤ length t.crumbs

-- none is counted
pub uncounted : (t : Track) → t.retrace ≡ 0 → Counted t
uncounted t e = record { few = omega arith; back = λ h. absurd (h e) }

put-counted : (p : Point) (t : Track) → Counted t → Counted (put p t).track
unfolding put
put-counted p t k = record { few = k.few; back = λ h. simp length-append (omega (arith, k.back h)) }

-- ---- the breadcrumb
pub record Recorded (K : List Crumb → Type 0) (Q : Point → Type 0) (C : ℕ) (t : Track) : Type 0 where
  pub sound : Sound C t
  pub crumbs : K t.crumbs
  pub waiting : All Q t.window

-- what a rule makes of the track t
pub record Onward (K : List Crumb → Type 0) (Q : Point → Type 0) (t u : Track) : Type 0 where
  pub crumbs : K u.crumbs
  pub waiting : All Q u.window
  pub counted : Counted t → Counted u

thin-few : (C : ℕ) → 3 ≤ C → (x : Float) (l : List Crumb) → length l ≤ C → length (realong (thinning C x l).left) ≤ C
thin-few C least x l few = rw length-realong (omega (arith, (thins-any C least x l few).few-left))

module _ {K : List Crumb → Type 0} {Q : Point → Type 0} (C : ℕ) (least : 3 ≤ C)
    (thinned : (x : Float) (l : List Crumb) → length l ≤ C → K l → K (realong (thinning C x l).left))
    (behind : (l : List Crumb) (p : Point) → length l ≤ C → K l → Q p → K (l ++ crumb_of p (recorded_m l p) ∷ [])) where
  -- on the way from the track t, with room for what is held
  abbrev Ready : Track → Track → Type 0
  Ready t u = (length u.crumbs ≤ C) × Onward K Q t u

  steps : (t : Track) → Steps C Q (Ready t) (Onward K Q t)
  unfolding thin put wait
  steps t =
      record {
        thins = λ u e r. (
          thin-few C least u.tolerance u.crumbs r.0,
          record {
            crumbs = thinned u.tolerance u.crumbs r.0 r.1.crumbs;
            waiting = r.1.waiting;
            counted = λ k. uncounted _ refl;
          },
        );
        puts = λ p u a r.
            record {
              crumbs = behind u.crumbs p r.0 r.1.crumbs a;
              waiting = r.1.waiting;
              counted = λ k. put-counted p u (r.1.counted k);
            };
        stays = λ u r. r.1;
        empties = λ u o.
            record { crumbs = o.crumbs; waiting = tt; counted = λ k. let c = o.counted k in record { few = c.few; back = c.back } };
        waits = λ p u a o.
            record {
              crumbs = o.crumbs;
              waiting = all-behind Q u.window p o.waiting a;
              counted = λ k. let c = o.counted k in record { few = c.few; back = c.back };
            };
        waited = λ u p r e. all-last Q u.window p r.1.waiting e;
      }

  ready : (t : Track) → Recorded K Q C t → Ready t t
  ready t r = (r.sound.held, record { crumbs = r.crumbs; waiting = r.waiting; counted = λ k. k })

  pub keep-onward : (p : Point) (t : Track) → Recorded K Q C t → Q p → Onward K Q t (keep C p t).track
  keep-onward p t r a = keeps (steps t) p t a (ready t r)

  pub flush-onward : (t : Track) → Recorded K Q C t → Onward K Q t (flush C t).track
  flush-onward t r = flushes (steps t) t (ready t r)

  pub add-onward : (p : Point) (t : Track) → Recorded K Q C t → Q p → Onward K Q t (add C p t).track
  add-onward p t r a = adds (steps t) p t a (ready t r)
