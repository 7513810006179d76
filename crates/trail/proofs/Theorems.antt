-- What holds of the rules, for every capacity and every track. Assumes nothing.
use Prim.Native.Nat.{ℕ, zero, suc, ◌-◌, ◌≤◌, ◌<◌}
use mathlib.Core.Path.{◌≡◌, refl, ap}
use mathlib.Core.Bool.{Bool, true, false, ◌||◌, true≢false}
use mathlib.Core.List.{List, [], ◌∷◌, ◌++◌, map, append-nil}
use Rattle.std.specs.Prelude.{Option, Some, None}
use native.Mathlib.Omega.{arith}
use native.Mathlib.Decide.{ℕ_discrete}
use borrow.Author.Tests.{eqb-false}
use lib.Dec.{T, leb, eqb}
use lib.ListN.{length, length-append}
use lib.Ieee.{Float, binary32, le}
use lib.Ieee.Bits.{is_true}
use Rattle.binary32.specs.Arithmetic.{constant}
use Rattle.binary32.specs.Limits.{plus_zero}
use Rattle.binary32.proofs.magnitude.Laws.{passed}
use Rattle.binary32.proofs.magnitude.More.{double-least}
use Rattle.plane.specs.declared.Point.{Point}
use Rattle.crumbs.specs.declared.Crumb.{Crumb}
use Rattle.crumbs.specs.Crumb.{point}
use Rattle.crumbs.specs.Choice.{Choice, first, last}
use Rattle.crumbs.proofs.Choices.{choice-map, first-map}
use Rattle.thin.specs.Crumb.{measuring_pass, doubled, target, Thinning, passes_from, thinning}
use Rattle.thin.specs.Theorems.{doubled_by}
use Rattle.thin.proofs.Theorems.{thins-any}
use Rattle.trail.specs.Notes.{Note, Kept, Thinned}
use Rattle.crumbs.specs.Along.{crumb_of, along_to, realong_behind, realong}
use Rattle.trail.specs.Trail.{window_places, Track, thin, put, keep, flush, wait, strays, simplify, add}
use Rattle.trail.proofs.Rules.{keep-full, keep-room, flush-none, flush-some, bends, simplify-bends, simplify-straight, add-first}
use Rattle.trail.proofs.Rules.{near, add-near, add-far}

-- ---- recomputing along
behind_places : (a : Crumb) (l : List Crumb) → map point (realong_behind a l) ≡ map point l
unfolding realong_behind
behind_places a [] = refl
behind_places a (b ∷ l) = ap (λ m. point b ∷ m) (behind_places (crumb_of (point b) (along_to a (point b))) l)

-- changes no place
pub realong-places : (l : List Crumb) → map point (realong l) ≡ map point l
unfolding realong
realong-places [] = refl
realong-places (a ∷ l) = ap (λ m. point a ∷ m) (behind_places a l)

length-behind : (a : Crumb) (l : List Crumb) → length (realong_behind a l) ≡ length l
unfolding realong_behind
length-behind a [] = refl
length-behind a (b ∷ l) = ap suc (length-behind (crumb_of (point b) (along_to a (point b))) l)

pub length-realong : (l : List Crumb) → length (realong l) ≡ length l
unfolding realong
length-realong [] = refl
length-realong (a ∷ l) = ap suc (length-behind a l)

-- ---- what is held
-- the crumbs, and the tolerance
pub record Holding : Type 0 where
  pub crumbs : List Crumb
  pub tolerance : Float

abbrev pub holding : Track → Holding
holding t = record { crumbs = t.crumbs; tolerance = t.tolerance }

-- with one crumb more, behind the others
abbrev pub with_crumb : Crumb → Holding → Holding
with_crumb c x = record { crumbs = x.crumbs ++ c ∷ []; tolerance = x.tolerance }

-- ---- a thinning
-- of x, which leaves y after n passes
pub record Leaves (C : ℕ) (x y : Holding) (n : ℕ) : Type 0 where
  pub counted : n ≡ (thinning C x.tolerance x.crumbs).passes
  pub leaves : y.crumbs ≡ realong (thinning C x.tolerance x.crumbs).left
  pub last-tolerance : y.tolerance ≡ doubled_by (n - 1) x.tolerance
  pub some-pass : 1 ≤ n
  pub few-passes : n ≤ 18
  pub few-left : length y.crumbs ≤ target C
  -- the places left are a choice from those that were there, beginning with the first
  pub choice : Choice (map point y.crumbs) (map point x.crumbs)
  pub begins : first (map point y.crumbs) ≡ first (map point x.crumbs)

thin-leaves : (C : ℕ) (t : Track) → 3 ≤ C → length t.crumbs ≤ C
    → Leaves C (holding t) (holding (thin C t).track) (thinning C t.tolerance t.crumbs).passes
unfolding thin
thin-leaves C t least fits =
    let w = thins-any C least t.tolerance t.crumbs fits in
    let m = (thinning C t.tolerance t.crumbs).left in
    record {
      counted = refl;
      leaves = refl;
      last-tolerance = w.last-tolerance;
      some-pass = w.some-pass;
      few-passes = w.few-passes;
      few-left = rw length-realong w.few-left;
      choice = rw realong-places (choice-map point w.choice);
      begins = rw realong-places (first-map point m t.crumbs w.begins);
    }

-- the tolerance stays 0 or more
doubled-least : (t : Float) → T (le plus_zero t) → T (le plus_zero (doubled t))
unfolding doubled constant
doubled-least t h = double-least binary32 t h

abbrev Least : Thinning → Type 0
Least w = T (le plus_zero w.tolerance)

from-least : (most k n : ℕ) (t : Float) (l : List Crumb) → T (le plus_zero t) → Least (passes_from most k n t l)
unfolding passes_from
from-least most k zero t l h = h
from-least most k (suc n) t l h =
    pick (leb (length (measuring_pass t l)) most) (from-least most (suc k) n (doubled t) (measuring_pass t l) (doubled-least t h))
  where
    pick : (b : Bool) → Least (passes_from most (suc k) n (doubled t) (measuring_pass t l))
        → Least (elim b [
          | true ↦ record { left = measuring_pass t l; tolerance = t; passes = k }
          | false ↦ passes_from most (suc k) n (doubled t) (measuring_pass t l)
        ])
    pick true later = h
    pick false later = later

thinning-least : (C : ℕ) (t : Float) (l : List Crumb) → le plus_zero t ≡ true → le plus_zero (thinning C t l).tolerance ≡ true
unfolding thinning
thinning-least C t l h = is_true _ (from-least (target C) 1 17 t l (passed h))

-- ---- what a rule does to what is held, and what it notes
-- Keeping p: one crumb at p is put behind those held, or, where there is no room, behind those that a thinning leaves.
pub data Keeps (C : ℕ) (p : Point) (x : Holding) : Holding → List Note → Type 0 where
  room : (c : Crumb) → point c ≡ p → (length x.crumbs ≡ C → ⊥) → Keeps C p x (with_crumb c x) (Kept p ∷ [])
  full : (y : Holding) (n : ℕ) (c : Crumb) → point c ≡ p → length x.crumbs ≡ C → Leaves C x y n
      → Keeps C p x (with_crumb c y) (Thinned n y.crumbs ∷ Kept p ∷ [])

-- Nothing is kept, or one place.
pub data MayKeep (C : ℕ) (x : Holding) : Holding → List Note → Type 0 where
  nothing : MayKeep C x x []
  one : {y : Holding} {notes : List Note} (p : Point) → Keeps C p x y notes → MayKeep C x y notes

-- What the rules rest on and keep up.
pub record Sound (C : ℕ) (t : Track) : Type 0 where
  pub held : length t.crumbs ≤ C
  pub waiting : length t.window ≤ window_places
  pub tolerance : le plus_zero t.tolerance ≡ true

-- ---- the window
some-last : (v : Point) (l : List Point) → last (v ∷ l) ≡ None → ⊥
some-last v [] e = let z : ◌≡◌ {A = ℕ} 0 1 = cc in omega arith
some-last v (w ∷ l) e = some-last w l e

none_last : (l : List Point) → last l ≡ None → l ≡ []
none_last [] e = refl
none_last (w ∷ l) e = absurd (some-last w l e)

-- a flush leaves the window empty
pub flush-empties : (C : ℕ) (t : Track) → (flush C t).track.window ≡ []
flush-empties C t = by (last t.window) refl
  where
    by : (o : Option Point) → last t.window ≡ o → (flush C t).track.window ≡ []
    by None e = rw (flush-none C t e) (none_last t.window e)
    by (Some p) e = rw (flush-some C p t e)

or_right : (a b : Bool) → (a || b) ≡ false → b ≡ false
or_right true b e = absurd (true≢false e)
or_right false b e = e

-- ---- every rule
module _ (C : ℕ) (least : 3 ≤ C) where
  pub thin-sound : (t : Track) → Sound C t → Sound C (thin C t).track
  unfolding thin
  thin-sound t s =
      record {
        held = omega (arith, (thin-leaves C t least s.held).few-left);
        waiting = s.waiting;
        tolerance = thinning-least C t.tolerance t.crumbs s.tolerance;
      }

  -- there is room behind a thinning
  pub thin-room : (t : Track) → Sound C t → length (thin C t).track.crumbs < C
  unfolding thin
  thin-room t s = omega (arith, (thin-leaves C t least s.held).few-left)

  put-sound : (p : Point) (t : Track) → Sound C t → length t.crumbs < C → Sound C (put p t).track
  unfolding put
  put-sound p t s h = record { held = simp length-append (omega arith); waiting = s.waiting; tolerance = s.tolerance }

  pub keep-sound : (p : Point) (t : Track) → Sound C t → Sound C (keep C p t).track
  keep-sound p t s = at (ℕ_discrete (length t.crumbs) C)
    where
      at : Dec (length t.crumbs ≡ C) → Sound C (keep C p t).track
      at (yes e) = rw (keep-full C p t e) (put-sound p (thin C t).track (thin-sound t s) (thin-room t s))
      at (no ne) = rw (keep-room C p t ne) (put-sound p t s (omega (arith, s.held)))

  pub keep-keeps : (p : Point) (t : Track) → Sound C t → Keeps C p (holding t) (holding (keep C p t).track) (keep C p t).notes
  unfolding thin put
  keep-keeps p t s = at (ℕ_discrete (length t.crumbs) C)
    where
      at : Dec (length t.crumbs ≡ C) → Keeps C p (holding t) (holding (keep C p t).track) (keep C p t).notes
      at (yes e) = rw (keep-full C p t e) (full (holding (thin C t).track) _ _ refl e (thin-leaves C t least s.held))
      at (no ne) = rw (keep-room C p t ne) (room _ refl ne)

  pub flush-sound : (t : Track) → Sound C t → Sound C (flush C t).track
  flush-sound t s = by (last t.window) refl
    where
      by : (o : Option Point) → last t.window ≡ o → Sound C (flush C t).track
      by None e = rw (flush-none C t e) s
      by (Some p) e =
          let k = keep-sound p t s in
          rw (flush-some C p t e) (record { held = k.held; waiting = omega arith; tolerance = k.tolerance })

  pub flush-keeps : (t : Track) → Sound C t → MayKeep C (holding t) (holding (flush C t).track) (flush C t).notes
  flush-keeps t s = by (last t.window) refl
    where
      by : (o : Option Point) → last t.window ≡ o → MayKeep C (holding t) (holding (flush C t).track) (flush C t).notes
      by None e = rw (flush-none C t e) nothing
      by (Some p) e = rw (flush-some C p t e, append-nil) (one p (keep-keeps p t s))

  wait-sound : (p : Point) (t : Track) → Sound C t → length t.window < window_places → Sound C (wait p t).track
  unfolding wait
  wait-sound p t s few = record { held = s.held; waiting = simp length-append (omega arith); tolerance = s.tolerance }

  pub simplify-sound : (anchor p : Point) (t : Track) → Sound C t → Sound C (simplify C anchor p t).track
  simplify-sound anchor p t s = by (bends C p t anchor) refl
    where
      by : (b : Bool) → bends C p t anchor ≡ b → Sound C (simplify C anchor p t).track
      by true e = rw (simplify-bends C p t anchor e) (wait-sound p (flush C t).track (flush-sound t s) (rw flush-empties (omega arith)))
      by false e = rw (simplify-straight C p t anchor e) (wait-sound p t s (omega (arith, s.waiting, not_full e)))
        where
          not_full : bends C p t anchor ≡ false → length t.window ≡ window_places → ⊥
          not_full f = eqb-false _ _ (or_right (strays t.tolerance anchor p t.window) (eqb (length t.window) window_places) f)

  pub simplify-keeps : (anchor p : Point) (t : Track) → Sound C t
      → MayKeep C (holding t) (holding (simplify C anchor p t).track) (simplify C anchor p t).notes
  unfolding wait
  simplify-keeps anchor p t s = by (bends C p t anchor) refl
    where
      by : (b : Bool) → bends C p t anchor ≡ b
          → MayKeep C (holding t) (holding (simplify C anchor p t).track) (simplify C anchor p t).notes
      by true e = rw (simplify-bends C p t anchor e, append-nil) (flush-keeps t s)
      by false e = rw (simplify-straight C p t anchor e) nothing

  pub add-sound : (p : Point) (t : Track) → Sound C t → Sound C (add C p t).track
  add-sound p t s = by (last t.crumbs) refl
    where
      far : (a : Crumb) → last t.crumbs ≡ Some a → (b : Bool) → near C p t a ≡ b → Sound C (add C p t).track
      far a e true h = rw (add-near C p t a e h) s
      far a e false h = rw (add-far C p t a e h) (simplify-sound (point a) p t s)

      by : (o : Option Crumb) → last t.crumbs ≡ o → Sound C (add C p t).track
      by None e = rw (add-first C p t e) (keep-sound p t s)
      by (Some a) e = far a e (near C p t a) refl

  pub add-keeps : (p : Point) (t : Track) → Sound C t → MayKeep C (holding t) (holding (add C p t).track) (add C p t).notes
  add-keeps p t s = by (last t.crumbs) refl
    where
      far : (a : Crumb) → last t.crumbs ≡ Some a → (b : Bool) → near C p t a ≡ b
          → MayKeep C (holding t) (holding (add C p t).track) (add C p t).notes
      far a e true h = rw (add-near C p t a e h) nothing
      far a e false h = rw (add-far C p t a e h) (simplify-keeps (point a) p t s)

      by : (o : Option Crumb) → last t.crumbs ≡ o → MayKeep C (holding t) (holding (add C p t).track) (add C p t).notes
      by None e = rw (add-first C p t e) (one p (keep-keeps p t s))
      by (Some a) e = far a e (near C p t a) refl
