-- Each rule by its cases. Assumes nothing.
use Prim.Native.Nat.{ℕ}
use mathlib.Core.Path.{◌≡◌, refl}
use mathlib.Core.Bool.{Bool, true, false, ◌||◌}
use mathlib.Core.List.{List, [], ◌∷◌, ◌++◌}
use Rattle.std.specs.Prelude.{Some, None}
use Rattle.std.specs.Option.{unwrap_or}
use borrow.Author.Tests.{eq-eqb, ne_eqb}
use lib.Dec.{eqb}
use lib.ListN.{length}
use lib.Ieee.{lt}
use Rattle.plane.specs.declared.Point.{Point}
use Rattle.plane.specs.Plane.{distance}
use Rattle.crumbs.specs.declared.Crumb.{Crumb}
use Rattle.crumbs.specs.Crumb.{point}
use Rattle.crumbs.specs.Choice.{last}
use Rattle.trail.specs.Notes.{Note, Kept, Thinned, Reset, thinned_in}
use Rattle.trail.specs.Trail.{window_places, min_step_m, Track, with_window, ◌>>◌, become, still, thin, put, keep, flush_last, flush, wait}
use Rattle.trail.specs.Trail.{strays, simplify, add_behind, add}

-- where no place waits a flush does nothing
pub flush-none : (C : ℕ) (t : Track) → last t.window ≡ None → flush C t ≡ still t
unfolding flush flush_last
flush-none C t e = rw e

module _ (C : ℕ) (p : Point) (t : Track) where
  pub keep-full : length t.crumbs ≡ C → keep C p t ≡ (thin C >> put p) t
  unfolding keep
  keep-full e = rw (eq-eqb _ _ e, keep)

  pub keep-room : (length t.crumbs ≡ C → ⊥) → keep C p t ≡ put p t
  unfolding keep
  keep-room ne = rw (ne_eqb _ _ ne, keep)

  pub flush-some : last t.window ≡ Some p → flush C t ≡ (keep C p >> become (with_window [])) t
  unfolding flush flush_last
  flush-some e = rw e

  module _ (anchor : Point) where
    -- whether the last place that waits is kept before p waits
    abbrev pub bends : Bool
    bends = strays t.tolerance anchor p t.window || eqb (length t.window) window_places

    pub simplify-bends : bends ≡ true → simplify C anchor p t ≡ (flush C >> wait p) t
    unfolding simplify
    simplify-bends e = rw (e, simplify)

    pub simplify-straight : bends ≡ false → simplify C anchor p t ≡ wait p t
    unfolding simplify
    simplify-straight e = rw (e, simplify)

  pub add-first : last t.crumbs ≡ None → add C p t ≡ keep C p t
  unfolding add add_behind
  add-first e = rw e

  module _ (a : Crumb) where
    -- whether p is too near to the last place
    abbrev pub near : Bool
    near = lt (distance (unwrap_or (last t.window) (point a)) p) min_step_m

    pub add-near : last t.crumbs ≡ Some a → near ≡ true → add C p t ≡ still t
    unfolding add add_behind
    add-near e h = rw e (rw (h, add_behind))

    pub add-far : last t.crumbs ≡ Some a → near ≡ false → add C p t ≡ simplify C (point a) p t
    unfolding add add_behind
    add-far e h = rw e (rw (h, add_behind))

-- a thinning among the notes of one rule, where the next has none
pub thinned-then : (ns ms : List Note) → thinned_in ms ≡ false → thinned_in (ns ++ ms) ≡ thinned_in ns
thinned-then [] ms e = e
thinned-then (Kept p ∷ ns) ms e = thinned-then ns ms e
thinned-then (Thinned n l ∷ ns) ms e = refl
thinned-then (Reset ∷ ns) ms e = thinned-then ns ms e
