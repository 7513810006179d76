-- binary32 for the rules: its operations as operators, and its constants from decimal text. Document 01, "Fix": "each f32 operation rounds
-- once, constants to nearest".
use Rattle.std.specs.Prelude.{ℕ, false, Float}
use Rattle.std.specs.Float.{binary32}
use Rattle.std.specs.Float.Ieee.{round, add, sub, mul, div}

infixl 60 ◌⊕◌ ◌⊖◌
infixl 70 ◌⊗◌ ◌⊘◌
abbrev pub ◌⊕◌ : Float → Float → Float
x ⊕ y = add binary32 x y

abbrev pub ◌⊖◌ : Float → Float → Float
x ⊖ y = sub binary32 x y

abbrev pub ◌⊗◌ : Float → Float → Float
x ⊗ y = mul binary32 x y

abbrev pub ◌⊘◌ : Float → Float → Float
x ⊘ y = div binary32 x y

-- the constant numerator / denominator, to the nearest
unfoldable pub constant : ℕ → ℕ → Float
unfolding round
constant numerator denominator = round binary32 false numerator denominator
