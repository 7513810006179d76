-- Lists element by element, and a copy into a part of a slice. Assumes nothing.
use Rattle.std.proofs.Common.{◌≡◌, List, ◌∷◌, ap, ◌∙◌}

-- two lists, element by element
pub cons : {A : Type 0} {a b : A} {l m : List A} → a ≡ b → l ≡ m → a ∷ l ≡ b ∷ m
cons {A} {a} {b} {l} {m} e f = ap (λ x. x ∷ l) e ∙ ap (λ x. b ∷ x) f
