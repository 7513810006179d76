-- For the functions inside: bounds on squares.
use Rattle.std.specs.Prelude.{◌≡◌, true, T, Float}
use Rattle.std.specs.Float.{binary32}
use Rattle.std.specs.Float.Ieee.{lt, le, fits}
use Rattle.binary32.specs.Root.{root}

-- where anything is at most lo, its root is at most `most`; a NaN, which nothing is at most, will do
pub record Under (most lo : Float) : Type 0 where
  pub held : T (fits binary32 lo)
  pub at : (s : Float) → le s lo ≡ true → le (root binary32 lo) most ≡ true

-- where hi is at most anything, its root is above `most`
pub record Over (most hi : Float) : Type 0 where
  pub held : T (fits binary32 hi)
  pub at : (s : Float) → le hi s ≡ true → lt most (root binary32 hi) ≡ true
