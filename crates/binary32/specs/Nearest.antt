-- What it says that a root is the nearest value of its format. In units of the format's smallest value, 2 ^ low of which make 1, let the
-- operand be X and the result R: the exact root is then that of X * 2 ^ low. The values of the format are the numbers m * 2 ^ i with m
-- below 2 ^ prec.
use Rattle.std.specs.Prelude.{ℕ, ◌+◌, ◌*◌, ◌^◌, ◌<◌, ◌≤◌, false, Float}
use Rattle.std.specs.Float.{Format}
use Rattle.std.specs.Float.Ieee.{prec, low}
use Rattle.std.specs.Float.Ieee.Exact.{HasValue}
use Rattle.std.specs.Float.Ieee.Scale.{overflow}
use Rattle.binary32.specs.Root.{root}

-- For no value Y of the format does the exact root lie nearer to Y than to R: it is on R's side of their middle (R + Y) / 2. Both are
-- doubled and squared.
pub record NoneNearer (f : Format) (X R : ℕ) : Type 0 where
  pub above : (m i : ℕ) → m < 2 ^ prec f → R < m * 2 ^ i → 4 * (X * 2 ^ low f) ≤ (R + m * 2 ^ i) * (R + m * 2 ^ i)
  pub below : (m i : ℕ) → m < 2 ^ prec f → m * 2 ^ i < R → (R + m * 2 ^ i) * (R + m * 2 ^ i) ≤ 4 * (X * 2 ^ low f)

-- "Root: IEEE 754 squareRoot": of a value above 0 no value of the format is nearer than the root,
abbrev pub EveryRootNearest : Type 0
EveryRootNearest =
    (f : Format) (x : Float) (X R : ℕ) → 0 < X → HasValue x false X (2 ^ low f) → HasValue (root f x) false R (2 ^ low f) → NoneNearer f X R

-- which is finite where the value is
abbrev pub EveryRootFinite : Type 0
EveryRootFinite =
    (f : Format) (x : Float) (X : ℕ) → 0 < X → HasValue x false X (2 ^ low f) → X < overflow f
    → (R : ℕ) × HasValue (root f x) false R (2 ^ low f)
