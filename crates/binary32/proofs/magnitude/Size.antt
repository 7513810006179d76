-- How large a float may be. Definitions only.
use Rattle.std.proofs.Common.{◌≡◌, ℕ, ◌*◌, ◌≤◌, Bool, true, false, leb, pos, negsuc}
use lib.Ieee.{Float, nan, inf, fin, up, down}

-- `Within b x`: b and x are finite, and x is no larger than b in size. Their signs do not count
abbrev pub Within : Float → Float → Type 0
Within nan x = ⊥
Within (inf s) x = ⊥
Within (fin s n d) nan = ⊥
Within (fin s n d) (inf t) = ⊥
Within (fin s n d) (fin t m e) = m * up e * down d ≤ n * up d * down e

-- the same as a test, for two values that are written out
abbrev pub within : Float → Float → Bool
within nan x = false
within (inf s) x = false
within (fin s n d) nan = false
within (fin s n d) (inf t) = false
within (fin s n d) (fin t m e) = leb (m * up e * down d) (n * up d * down e)

-- finite, and 0 or more: a zero may have either sign
abbrev pub NonNeg : Float → Type 0
NonNeg nan = ⊥
NonNeg (inf s) = ⊥
NonNeg (fin false m e) = Unit {0}
NonNeg (fin true m e) = m ≡ 0

-- a share: finite, and from 0 to 1
abbrev pub Share : Float → Type 0
Share nan = ⊥
Share (inf s) = ⊥
Share (fin false m e) = m * up e ≤ down e
Share (fin true m e) = m ≡ 0

-- 2 ^ k
abbrev pub pow : ℕ → Float
pow k = fin false 1 (pos k)

-- 2 ^ -(k + 1)
abbrev pub frac : ℕ → Float
frac k = fin false 1 (negsuc k)
