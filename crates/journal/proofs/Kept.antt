-- The places kept since the last reset, in document 01's words: those of "the kept notes after the last reset note, or in all of them
-- without one". Assumes nothing.
use Prim.Native.Nat.{suc}
use mathlib.Core.Path.{◌≡◌, refl, sym, ap, ◌∙◌}
use mathlib.Core.List.{List, [], ◌∷◌, ◌++◌, append_assoc, append-nil}
use lib.ListN.{length}
use Rattle.plane.specs.declared.Point.{Point}
use Rattle.trail.specs.Notes.{Note, Kept, Thinned, Reset}
use Rattle.journal.specs.Kept.{kept_after, kept_since_reset, kept_in}

-- the places of the kept notes
abbrev pub places : List Note → List Point
places [] = []
places (Kept p ∷ notes) = p ∷ places notes
places (Thinned passes left ∷ notes) = places notes
places (Reset ∷ notes) = places notes

-- no reset is among the notes
abbrev pub Unreset : List Note → Type 0
Unreset [] = Unit {0}
Unreset (Kept p ∷ notes) = Unreset notes
Unreset (Thinned passes left ∷ notes) = Unreset notes
Unreset (Reset ∷ notes) = ⊥

behind : (kept : List Point) (notes : List Note) → Unreset notes → kept_after kept notes ≡ kept ++ places notes
behind kept [] h = sym (append-nil kept)
behind kept (Kept p ∷ notes) h = behind (kept ++ p ∷ []) notes h ∙ append_assoc kept (p ∷ []) (places notes)
behind kept (Thinned passes left ∷ notes) h = behind kept notes h
behind kept (Reset ∷ notes) h = absurd h

pub without-reset : (notes : List Note) → Unreset notes → kept_since_reset notes ≡ places notes
without-reset notes h = behind [] notes h

afresh : (kept : List Point) (before after : List Note) → kept_after kept (before ++ Reset ∷ after) ≡ kept_since_reset after
afresh kept [] after = refl
afresh kept (Kept p ∷ before) after = afresh (kept ++ p ∷ []) before after
afresh kept (Thinned passes left ∷ before) after = afresh kept before after
afresh kept (Reset ∷ before) after = afresh [] before after

pub after-last-reset : (before after : List Note) → Unreset after → kept_since_reset (before ++ Reset ∷ after) ≡ places after
after-last-reset before after h = afresh [] before after ∙ without-reset after h

-- so many are counted, a reset among the notes or not
pub counted : (notes : List Note) → kept_in notes ≡ length (places notes)
counted [] = refl
counted (Kept p ∷ notes) = ap suc (counted notes)
counted (Thinned passes left ∷ notes) = counted notes
counted (Reset ∷ notes) = counted notes
