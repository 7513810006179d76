-- Rust's casts between f32 and the integers, as the guide uses them.
use Rattle.std.specs.Prelude.{ℕ, Float}
use Rattle.std.specs.Float.Ieee.{to_unsigned}

-- `x as u32`: toward zero, to the nearest end of the range where it is out of it, and 0 for a NaN
abbrev pub as_u32 : Float → ℕ
as_u32 x = to_unsigned 32 x
