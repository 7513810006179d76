-- Document 01, "Journal": what a call notes, "in the order the rules do them, none or several".
use Rattle.std.specs.Prelude.{ℕ, Bool, true, false, List, [], ◌∷◌}
use Rattle.plane.specs.declared.Point.{Point}
use Rattle.crumbs.specs.declared.Crumb.{Crumb}

pub data Note : Type 0 where
  -- "Kept: a crumb is put behind those held. Noted is its place, east and north."
  Kept : Point → Note
  -- "Thinning: `Homing::thin` runs. Noted are its passes, counted as above, and the crumbs it leaves": as they are held when `Homing::thin`
  -- has run, with along recomputed. "The crumb whose keeping called for it set it off": its `Kept` is the next note.
  Thinned : ℕ → List Crumb → Note
  -- "Reset: the guide is reset."
  Reset : Note

-- whether a thinning is among the notes
abbrev pub thinned_in : List Note → Bool
thinned_in [] = false
thinned_in (Kept p ∷ notes) = thinned_in notes
thinned_in (Thinned passes left ∷ notes) = true
thinned_in (Reset ∷ notes) = thinned_in notes
