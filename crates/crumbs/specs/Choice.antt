-- Document 01, "Journal": "A choice strikes out any of the kept and leaves the rest in order; a place kept twice is two. It begins with the
-- first".
use Rattle.std.specs.Prelude.{List, [], ◌∷◌, Option, Some, None}

-- `Choice m l`: m is what is left of l
pub data Choice {A : Type 0} : List A → List A → Type 0 where
  end : Choice [] []
  leave : {a : A} {m l : List A} → Choice m l → Choice (a ∷ m) (a ∷ l)
  strike : {a : A} {m l : List A} → Choice m l → Choice m (a ∷ l)

-- the first of a list, where there is one
abbrev pub first : {A : Type 0} → List A → Option A
first [] = None
first (a ∷ l) = Some a

-- the last of a list, where there is one
abbrev pub last : {A : Type 0} → List A → Option A
last [] = None
last (a ∷ []) = Some a
last (a ∷ b ∷ l) = last (b ∷ l)
