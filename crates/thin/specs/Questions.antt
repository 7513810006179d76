-- Document 01, "Questions put to a call": "`thin`, in place of the two above: buffer a multiple of 3 long, C 3 to 4,096, length ≤ C,
-- tolerance 0 or more? No: 9." A NaN is not 0 or more.
use Rattle.std.specs.Prelude.{ℕ, Bool, ◌&&◌, leb, Float}
use Rattle.std.specs.Float.Ieee.{le}
use Rattle.binary32.specs.Limits.{plus_zero}
use Rattle.crumbs.specs.Crumb.{whole, capacity}

-- of a buffer of `size` numbers, n crumbs and the tolerance t
unfoldable pub question9 : ℕ → ℕ → Float → Bool
question9 size n t =
    whole size && leb 3 (capacity size) && leb (capacity size) 4096 && leb n (capacity size) && le plus_zero t
