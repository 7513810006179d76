-- The recording of the breadcrumb: document 01, "Crumb", and homing.rs's `add`, `keep` and `thin`. Nothing here knows of a
-- buffer. C is how many crumbs there is room for.
use Rattle.std.specs.Prelude.{ℕ, Bool, true, false, ◌||◌, List, [], ◌∷◌, ◌++◌, length, eqb, Float, Option, Some, None}
use Rattle.std.specs.Option.{unwrap_or}
use Rattle.std.specs.Float.Ieee.{lt}
use Rattle.binary32.specs.Arithmetic.{constant}
use Rattle.plane.specs.declared.Point.{Point}
use Rattle.plane.specs.Plane.{distance, off_segment}
use Rattle.crumbs.specs.declared.Crumb.{Crumb}
use Rattle.crumbs.specs.Crumb.{point}
use Rattle.crumbs.specs.Choice.{last}
use Rattle.thin.specs.Crumb.{thinning}
use Rattle.crumbs.specs.Along.{crumb_of, recorded_m, realong}
use Rattle.trail.specs.Notes.{Note, Kept, Thinned, Reset}

-- "Points wait in a window of 48 places"
abbrev pub window_places : ℕ
window_places = 48

-- a fix closer than this to the last one adds nothing: 5 m
unfoldable pub min_step_m : Float
min_step_m = constant 5 1

-- the tolerance of a new breadcrumb: 6 m
unfoldable pub tolerance_m : Float
tolerance_m = constant 6 1

-- homing.rs, `RETRACE_FIXES`: so many fixes in a row back along the breadcrumb follow it
abbrev pub retrace_fixes : ℕ
retrace_fixes = 8

-- What is recorded: the crumbs held, the tolerance, the places that wait, each oldest first; and the turn-round count, with how many crumbs
-- were held before the turn.
pub record Track : Type 0 where
  pub crumbs : List Crumb
  pub tolerance : Float
  pub window : List Point
  pub retrace : ℕ
  pub retrace_len : ℕ

abbrev pub with_crumbs : List Crumb → Track → Track
with_crumbs l t =
    record { crumbs = l; tolerance = t.tolerance; window = t.window; retrace = t.retrace; retrace_len = t.retrace_len }

abbrev pub with_window : List Point → Track → Track
with_window w t =
    record { crumbs = t.crumbs; tolerance = t.tolerance; window = w; retrace = t.retrace; retrace_len = t.retrace_len }

-- nothing is recorded yet
unfoldable pub fresh : Track
fresh = record { crumbs = []; tolerance = tolerance_m; window = []; retrace = 0; retrace_len = 0 }

-- ---- the form of a rule
-- the track after a rule, and what it noted, in the order in which it was done
pub record TrailDone : Type 0 where
  pub track : Track
  pub notes : List Note

abbrev pub Rule : Type 0
Rule = Track → TrailDone

-- one rule, and then another
infixl 1 ◌>>◌
abbrev pub ◌>>◌ : Rule → Rule → Rule
◌>>◌ m n = λ t. let r = m t in let s = n r.track in record { track = s.track; notes = r.notes ++ s.notes }

-- changes what is not noted
abbrev pub become : (Track → Track) → Rule
become f t = record { track = f t; notes = [] }

-- changes nothing
abbrev pub still : Rule
still t = become (λ u. u) t

-- ---- the rules
-- "Added: a thinning sets the turn-round count `retrace` to 0. In the Rust `retrace_len` survives". It leaves the tolerance of its last
-- pass.
unfoldable pub thin : ℕ → Rule
thin C t =
    let w = thinning C t.tolerance t.crumbs in
    let left = realong w.left in
    record {
      track = record { crumbs = left; tolerance = w.tolerance; window = t.window; retrace = 0; retrace_len = t.retrace_len };
      notes = Thinned w.passes left ∷ [];
    }

-- a crumb at p behind those held
unfoldable pub put : Point → Rule
put p t = record { track = with_crumbs (t.crumbs ++ crumb_of p (recorded_m t.crumbs p) ∷ []) t; notes = Kept p ∷ [] }

-- `keep`: where there is no room left the line is thinned first
unfoldable pub keep : ℕ → Point → Rule
keep C p t = elim (eqb (length t.crumbs) C) [ true ↦ (thin C >> put p) t | false ↦ put p t ]

-- the last place that waits is kept, and the window emptied, where a place waits
unfoldable pub flush_last : Option Point → ℕ → Rule
flush_last None C = still
flush_last (Some p) C = keep C p >> become (with_window [])

unfoldable pub flush : ℕ → Rule
flush C t = flush_last (last t.window) C t

-- p waits behind the others
unfoldable pub wait : Point → Rule
wait p = become λ t. with_window (t.window ++ p ∷ []) t

-- whether a place that waits lies farther than the tolerance from the chord from the anchor to p
unfoldable pub strays : Float → Point → Point → List Point → Bool
strays tolerance anchor p [] = false
strays tolerance anchor p (w ∷ window) =
    elim (lt tolerance (off_segment w anchor p)) [ true ↦ true | false ↦ strays tolerance anchor p window ]

-- p is far enough on: where a waiting place strays, or the window is full, the last that waits is kept; then p waits
unfoldable pub simplify : ℕ → Point → Point → Rule
simplify C anchor p t =
    elim (strays t.tolerance anchor p t.window || eqb (length t.window) window_places) [
      | true ↦ (flush C >> wait p) t
      | false ↦ wait p t
    ]

-- The first crumb is kept at once. The last one held is the anchor, and p adds nothing where it is too near to the last place that waits,
-- or to the anchor where none does.
unfoldable pub add_behind : Option Crumb → ℕ → Point → Rule
add_behind None C p t = keep C p t
add_behind (Some a) C p t =
    elim (lt (distance (unwrap_or (last t.window) (point a)) p) min_step_m) [ true ↦ still t | false ↦ simplify C (point a) p t ]

unfoldable pub add : ℕ → Point → Rule
add C p t = add_behind (last t.crumbs) C p t

-- "Reset: the guide is reset": nothing is held, nothing waits, and no turn-round is under way. `retrace_len` stays, as in the Rust.
unfoldable pub reset_track : Rule
reset_track t =
    let emptied : Track = record { crumbs = []; tolerance = tolerance_m; window = []; retrace = 0; retrace_len = t.retrace_len } in
    record { track = emptied; notes = Reset ∷ [] }
