-- The absolute value, and Rust's `clamp` and `max` at the ends that the guide uses.
use Rattle.std.specs.Prelude.{false, cond, pos, Float}
use Rattle.std.specs.Float.{nan, inf, fin}
use Rattle.std.specs.Float.Ieee.{lt}

abbrev pub plus_zero : Float
plus_zero = fin false 0 (pos 0)

abbrev pub one : Float
one = fin false 1 (pos 0)

-- |x|: the value without its sign; a NaN stays
abbrev pub size_of : Float → Float
size_of nan = nan
size_of (inf s) = inf false
size_of (fin s m e) = fin false m e

-- `x.clamp(0.0, 1.0)`: -0 and a NaN pass, being neither below 0 nor above 1
unfoldable pub clamp : Float → Float
unfolding lt
clamp x = cond (lt x plus_zero) plus_zero (cond (lt one x) one x)

-- `x.max(0.0)`: a NaN gives 0, and so does -0, at which Rust leaves the sign open
unfoldable pub max_zero : Float → Float
unfolding lt
max_zero x = cond (lt plus_zero x) x plus_zero
