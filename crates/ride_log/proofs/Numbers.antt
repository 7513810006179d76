-- A 32-bit number read as two's complement, by the standard library and by the rule. Assumes nothing.
use Prim.Native.Nat.{ℕ, ◌^◌, ◌<◌}
use mathlib.Core.Path.{◌≡◌}
use native.Mathlib.Omega.{arith}
use Rattle.std.specs.Int.{cast_signed, w32}
use Rattle.std.proofs.lemmas.Bool.Decides.{nat_tests}
use Rattle.ride_log.specs.Entry.{signed}

pub cast-signed : (n : ℕ) → n < 2 ^ 32 → cast_signed w32 n ≡ signed n
unfolding signed
cast-signed n k = grind (arith, nat_tests)
