-- For the functions inside: crumbs between two others, number by number.
use Rattle.std.specs.Prelude.{ℕ, ◌+◌, ◌≤◌, ◌<◌, ◌≡◌, Bool, true, ◌&&◌, List, Float}
use Rattle.std.specs.Float.Ieee.{le}
use Rattle.crumbs.specs.declared.Crumb.{Crumb}
use Rattle.crumbs.specs.Crumb.{crumb_at}

-- no number of c is below that of `least` or above that of `most`
unfoldable pub between : Crumb → Crumb → Crumb → Bool
between least most c =
    le least.east c.east && le c.east most.east
    && le least.north c.north && le c.north most.north
    && le least.along c.along && le c.along most.along

-- the crumbs of a row
abbrev pub row_length : ℕ
row_length = 16

-- a row of crumbs that are all c
pub record RowOf (c : Crumb) (row : List Float) : Type 0 where
  pub each : (k : ℕ) → k < row_length → crumb_at row k ≡ c

-- the row from place i of a buffer on lies between two rows
pub record RowBetween (least most b : List Float) (i : ℕ) : Type 0 where
  pub each : (k : ℕ) → k < row_length → between (crumb_at least k) (crumb_at most k) (crumb_at b (i + k)) ≡ true

-- of n crumbs the first i lie between two
pub record Leading (least most : Crumb) (n : ℕ) (b : List Float) (i : ℕ) : Type 0 where
  pub within : i ≤ n
  pub each : (k : ℕ) → k < i → between least most (crumb_at b k) ≡ true
