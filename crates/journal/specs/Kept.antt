-- What is read from the notes. Document 01, "Journal". The notes stand in the order in which they were made, the oldest first.
use Rattle.std.specs.Prelude.{ℕ, suc, ◌-◌, List, [], ◌∷◌, ◌++◌, Float}
use Rattle.plane.specs.declared.Point.{Point}
use Rattle.thin.specs.Theorems.{doubled_by}
use Rattle.trail.specs.Notes.{Note, Kept, Thinned, Reset}
use Rattle.trail.specs.Trail.{tolerance_m}

-- "Places kept since the last reset stand in the kept notes after the last reset note, or in all of them without one": `kept` are those
-- kept before these notes, and each reset begins anew
abbrev pub kept_after : List Point → List Note → List Point
kept_after kept [] = kept
kept_after kept (Kept p ∷ notes) = kept_after (kept ++ p ∷ []) notes
kept_after kept (Thinned passes left ∷ notes) = kept_after kept notes
kept_after kept (Reset ∷ notes) = kept_after [] notes

abbrev pub kept_since_reset : List Note → List Point
kept_since_reset notes = kept_after [] notes

-- "counted over all kept notes, a reset between or not"
abbrev pub kept_in : List Note → ℕ
kept_in [] = 0
kept_in (Kept p ∷ notes) = suc (kept_in notes)
kept_in (Thinned passes left ∷ notes) = kept_in notes
kept_in (Reset ∷ notes) = kept_in notes

-- The tolerance that the next thinning finds, t being that before these notes: a thinning leaves that of its last pass, "tolerance doubled
-- after each failing pass", and a reset begins anew.
abbrev pub tolerance_after : Float → List Note → Float
tolerance_after t [] = t
tolerance_after t (Kept p ∷ notes) = tolerance_after t notes
tolerance_after t (Thinned passes left ∷ notes) = tolerance_after (doubled_by (passes - 1) t) notes
tolerance_after t (Reset ∷ notes) = tolerance_after tolerance_m notes
