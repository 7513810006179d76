-- Every starred line of the table holds of the rules. Assumes nothing.
use Prim.Native.Nat.{ℕ, zero, suc, ◌≤◌}
use native.Mathlib.Nat.{zero-mul}
use native.Mathlib.Omega.{arith}
use mathlib.Core.Path.{◌≡◌, refl, ap, ◌∙◌}
use mathlib.Core.Bool.{Bool, true, false}
use lib.Ieee.{Float, nan, inf, fin, down, level, of_bits, eq, le, lt, add, sub, mul, div, to_unsigned}
use Rattle.binary32.specs.Arithmetic.{constant}
use Rattle.binary32.specs.Root.{root}
use Rattle.binary32.specs.Limits.{plus_zero, clamp}
use Rattle.binary32.proofs.magnitude.Size.{Within}
use Rattle.std.specs.Prelude.{Option, Some, ℕ}
use Rattle.plane.specs.Plane.{distance, share, between, at_share, project, off_segment, metres}
use Rattle.plane.specs.Fix.{east_per_e7, frame}
use Rattle.plane.proofs.Starred as plane
use Rattle.thin.specs.Crumb.{clear, farther, reach, two_on, pass_by, measuring_pass, halving_pass, doubled, passes_from, thinning}
use Rattle.thin.specs.Questions.{question9}
use Rattle.thin.specs.Promises.{thin_answer}
use Rattle.lap.specs.Pass.{pass_arm_m, pass_m, pass_end_m, from_stage, step_of}
use Rattle.state.specs.Guide.{arrow, arrow_from}
use Rattle.matching.specs.Distances.{off_m, on_m}
use Rattle.matching.specs.Match.{off_now}
use Rattle.rebuild.proofs.Starred as rebuild
use Rattle.starred.specs.Table.{westernmost, easternmost, Table}

zeros-level : (s : Bool) (a b : ℕ) → a ≤ b → b ≡ 0 → level s a false b ≡ true
zeros-level true zero zero h z = refl
zeros-level false zero zero h z = refl
zeros-level s (suc a) b h z = absurd (omega arith)
zeros-level s zero (suc b) h z = absurd (omega arith)

-- what is at most 0 in size equals 0
zero-within : (x : Float) → Within plus_zero x → eq x plus_zero ≡ true
unfolding eq
zero-within nan h = absurd h
zero-within (inf s) h = absurd h
zero-within (fin s m e) h = zeros-level s _ _ h (zero-mul (down e))

pub table : Table
unfolding thin_answer question9 thinning passes_from measuring_pass halving_pass pass_by reach two_on farther clear doubled off_segment
    project
    at_share between share distance root clamp arrow metres step_of from_stage pass_arm_m pass_m pass_end_m off_now off_m on_m constant
    of_bits
    to_unsigned le lt add sub mul div
table =
    record {
      straight-answer = λ along. refl;
      straight-left = λ along. refl;
      zigzag-answer = λ along. refl;
      zigzag-left = λ along. refl;
      room-for-two = λ t l. refl;
      north = plane.north;
      east = plane.east;
      south = plane.south;
      west = plane.west;
      arrow-one = λ g b h. ap (λ (x : Option ℕ). arrow_from x g.bearing) h ∙ ap (arrow_from (Some 4095)) b;
      half-metre = refl;
      under-half = refl;
      under-half-bits = refl;
      half-round =
          λ lat0 lat h. zero-within (frame (westernmost lat0) (east_per_e7 lat0) (easternmost lat)).east (plane.half-round lat0 lat h);
      one-pass = refl;
      not-armed = λ moving. refl;
      stays_on = refl;
      clears = refl;
      carries-on = rebuild.carries-on;
      carries-on-back = rebuild.carries-on-back;
      resets = rebuild.resets;
      resets-back = rebuild.resets-back;
    }
