-- For the functions inside: the cast of a difference. For the proofs about `root`: the root of a whole number. `Root.antt` alone says what
-- `sqrtf` gives.
use Rattle.std.specs.Prelude.{ℕ, ◌+◌, ◌-◌, ◌*◌, ◌^◌, ◌<◌, ◌≤◌, min, ℤ, pos, negsuc, Float}
use Rattle.std.specs.Float.{binary32}
use Rattle.std.specs.Float.Ieee.{of_int}

-- w is the whole part of the root of n
abbrev pub IsRoot : ℕ → ℕ → Type 0
IsRoot n w = (w * w ≤ n) × (n < (w + 1) * (w + 1))

-- q is the whole number nearest to the root of n: (q - 1/2) ^ 2 < n < (q + 1/2) ^ 2, multiplied out and cut to whole numbers
abbrev pub Nearest : ℕ → ℕ → Type 0
Nearest n q = (q * q < n + q) × (n ≤ q * q + q)

-- a number whose size counts as 2^32 - 1 where it is larger: the difference of two i32 is never larger
abbrev pub within32 : ℤ → ℤ
within32 (pos n) = pos (min n (2 ^ 32 - 1))
within32 (negsuc n) = negsuc (min n (2 ^ 32 - 2))

-- `d as f32` of a difference: the nearest, rounded once
unfoldable pub as_f32 : ℤ → Float
unfolding of_int
as_f32 d = of_int binary32 (within32 d)
