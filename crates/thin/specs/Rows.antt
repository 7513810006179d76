-- For the functions inside: crumbs of a buffer that are tested several at a time.
use Rattle.std.specs.Prelude.{ℕ, ◌+◌, ◌≤◌, ◌<◌, ◌≡◌, Bool, true, List, Float}
use Rattle.std.specs.Float.Ieee.{le}
use Rattle.plane.specs.declared.Point.{Point}
use Rattle.plane.specs.Square.{off_square}
use Rattle.crumbs.specs.Crumb.{crumb_at, point}

-- whether crumb i is off the segment from a to b by a square of at most lo
abbrev pub near : List Float → Point → Point → Float → ℕ → Bool
near buf a b lo i = le (off_square (point (crumb_at buf i)) a b) lo

-- whether the crumb after crumb i is off the chord over it by a square of at least hi
abbrev pub far : List Float → Float → ℕ → Bool
far buf hi i = le hi (off_square (point (crumb_at buf (i + 1))) (point (crumb_at buf i)) (point (crumb_at buf (i + 2))))

-- a test that every crumb from `from` on, up to the one before `to`, passes
pub record Each (test : ℕ → Bool) (from to : ℕ) : Type 0 where
  pub at : (i : ℕ) → from ≤ i → i < to → test i ≡ true
