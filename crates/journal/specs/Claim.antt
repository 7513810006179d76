-- Demand 3: what holds of the notes of a list of calls and of the places held after it. Document 01, "Journal". C is how many crumbs there
-- is room for, and T, the most that a thinning leaves, is `target C`.
use Rattle.std.specs.Prelude.{ℕ, ◌-◌, ◌≤◌, ◌≡◌, List, ◌∷◌, ◌++◌, map, length, Float}
use Rattle.plane.specs.declared.Point.{Point}
use Rattle.crumbs.specs.declared.Crumb.{Crumb}
use Rattle.crumbs.specs.Crumb.{point}
use Rattle.crumbs.specs.Choice.{Choice, first}
use Rattle.crumbs.specs.Along.{realong}
use Rattle.thin.specs.Crumb.{target, thinning}
use Rattle.trail.specs.Notes.{Note, Kept, Thinned}
use Rattle.trail.specs.Trail.{tolerance_m}
use Rattle.calls.specs.Calls.{Call}
use Rattle.journal.specs.Kept.{kept_since_reset, kept_in, tolerance_after}
use Rattle.journal.specs.Journal.{journal, held_in}

-- places chosen from those kept
pub record Chosen (places kept : List Point) : Type 0 where
  -- "A choice strikes out any of the kept and leaves the rest in order; a place kept twice is two."
  pub choice : Choice places kept
  -- "It begins with the first once one was kept; before that nothing is held."
  pub begins : first places ≡ first kept

-- What a thinning notes, with `kept` the places kept since the last reset before it, and the tolerance that it found.
pub record NotesThinning (C : ℕ) (kept : List Point) (tolerance : Float) (passes : ℕ) (left : List Crumb) : Type 0 where
  -- It found as many crumbs as there is room for, chosen from those kept.
  pub found : List Crumb
  pub full : length found ≡ C
  pub chosen : Chosen (map point found) kept
  -- The passes are those that `thin` makes on them: "`thin`'s pass count is the number of passes made" (`EveryThinning` of `thin`). The
  -- crumbs left are those that it leaves: "`Homing::thin` then recomputes along".
  pub counted : passes ≡ (thinning C tolerance found).passes
  pub leaves : left ≡ realong (thinning C tolerance found).left
  -- 1 to 18 passes, at most T crumbs left
  pub some-pass : 1 ≤ passes
  pub few-passes : passes ≤ 18
  pub few-left : length left ≤ target C

-- the notes begin with the keeping of a crumb
abbrev pub KeepsNext : List Note → Type 0
KeepsNext notes = (p : Point) × ((rest : List Note) × (notes ≡ Kept p ∷ rest))

pub record Claim (C : ℕ) (notes : List Note) (places : List Point) : Type 0 where
  -- the places held are chosen from those kept since the last reset
  pub chosen : Chosen places (kept_since_reset notes)
  -- "Crumbs between two thinnings are counted over all kept notes, a reset between or not": at least C less T. The crumb that set off the
  -- first is counted, and the one that set off the second is not, since each is noted right behind its thinning, as `sets-off` says.
  pub apart : (before between after : List Note) (n m : ℕ) (l k : List Crumb)
      → notes ≡ before ++ Thinned n l ∷ between ++ Thinned m k ∷ after → C - target C ≤ kept_in between
  -- "The crumb whose keeping called for it set it off."
  pub sets-off : (before after : List Note) (n : ℕ) (l : List Crumb) → notes ≡ before ++ Thinned n l ∷ after → KeepsNext after
  -- each thinning's note is of the passes made, on crumbs chosen from those kept before it
  pub each : (before after : List Note) (n : ℕ) (l : List Crumb) → notes ≡ before ++ Thinned n l ∷ after
      → NotesThinning C (kept_since_reset before) (tolerance_after tolerance_m before) n l

-- every list of calls, refused ones among them, whatever their arguments and lent lines, of every capacity a guide may have
abbrev pub EveryJournal : Type 0
EveryJournal = (C : ℕ) → 8 ≤ C → C ≤ 4096 → (calls : List Call) → Claim C (journal C calls).notes (held_in (journal C calls).state)
