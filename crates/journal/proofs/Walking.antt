-- What each step of a recording leads on to, the recording leads on to: a crumb kept, a place added, the window flushed. Assumes nothing.
use Prim.Native.Nat.{ℕ}
use mathlib.Core.Path.{◌≡◌, refl}
use mathlib.Core.Bool.{Bool, true, false}
use mathlib.Core.List.{[]}
use Rattle.std.specs.Prelude.{Option, Some, None}
use native.Mathlib.Decide.{ℕ_discrete}
use lib.ListN.{length}
use Rattle.plane.specs.declared.Point.{Point}
use Rattle.crumbs.specs.declared.Crumb.{Crumb}
use Rattle.crumbs.specs.Crumb.{point}
use Rattle.crumbs.specs.Choice.{last}
use Rattle.trail.specs.Trail.{Track, with_window, thin, put, keep, flush, wait, simplify, add}
use Rattle.trail.proofs.Rules.{keep-full, keep-room, flush-none, flush-some, bends, simplify-bends, simplify-straight, add-first, near}
use Rattle.trail.proofs.Rules.{add-near, add-far}

-- From a track of which `Before` holds, at places of which `At` holds, each step leads to one of which `After` holds.
pub record Steps (C : ℕ) (At : Point → Type 0) (Before After : Track → Type 0) : Type 0 where
  pub thins : (t : Track) → length t.crumbs ≡ C → Before t → Before (thin C t).track
  pub puts : (p : Point) (t : Track) → At p → Before t → After (put p t).track
  pub stays : (t : Track) → Before t → After t
  pub empties : (t : Track) → After t → After (with_window [] t)
  pub waits : (p : Point) (t : Track) → At p → After t → After (wait p t).track
  pub waited : (t : Track) (p : Point) → Before t → last t.window ≡ Some p → At p

module _ {C : ℕ} {At : Point → Type 0} {Before After : Track → Type 0} (steps : Steps C At Before After) where
  pub keeps : (p : Point) (t : Track) → At p → Before t → After (keep C p t).track
  keeps p t a b = by (ℕ_discrete (length t.crumbs) C)
    where
      by : Dec (length t.crumbs ≡ C) → After (keep C p t).track
      by (yes e) = rw (keep-full C p t e) (steps.puts p (thin C t).track a (steps.thins t e b))
      by (no ne) = rw (keep-room C p t ne) (steps.puts p t a b)

  pub flushes : (t : Track) → Before t → After (flush C t).track
  flushes t b = by (last t.window) refl
    where
      by : (o : Option Point) → last t.window ≡ o → After (flush C t).track
      by None e = rw (flush-none C t e) (steps.stays t b)
      by (Some p) e = rw (flush-some C p t e) (steps.empties _ (keeps p t (steps.waited t p b e) b))

  simplifies : (anchor p : Point) (t : Track) → At p → Before t → After (simplify C anchor p t).track
  simplifies anchor p t a b = by (bends C p t anchor) refl
    where
      by : (k : Bool) → bends C p t anchor ≡ k → After (simplify C anchor p t).track
      by true e = rw (simplify-bends C p t anchor e) (steps.waits p (flush C t).track a (flushes t b))
      by false e = rw (simplify-straight C p t anchor e) (steps.waits p t a (steps.stays t b))

  pub adds : (p : Point) (t : Track) → At p → Before t → After (add C p t).track
  adds p t a b = by (last t.crumbs) refl
    where
      far : (c : Crumb) → last t.crumbs ≡ Some c → (k : Bool) → near C p t c ≡ k → After (add C p t).track
      far c e true f = rw (add-near C p t c e f) (steps.stays t b)
      far c e false f = rw (add-far C p t c e f) (simplifies (point c) p t a b)

      by : (o : Option Crumb) → last t.crumbs ≡ o → After (add C p t).track
      by None e = rw (add-first C p t e) (keeps p t a b)
      by (Some c) e = far c e (near C p t c) refl
