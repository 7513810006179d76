-- For the functions inside: what is found lies on the line.
use Rattle.std.specs.Prelude.{ℕ, ◌≤◌, ◌<◌, Option, Some, None}
use Rattle.segments.specs.declared.costs.Nearest.{Nearest}

-- what is found lies on a line of `len` crumbs
abbrev pub InLine : ℕ → Option Nearest → Type 0
InLine len None = Unit {0}
InLine len (Some near) = (1 ≤ near.end) × (near.end < len)
