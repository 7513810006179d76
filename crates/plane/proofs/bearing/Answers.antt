-- `plane::bearing` meets its contract: each step is the rule's.
use Rattle.std.proofs.Common.{ℕ, ◌%◌, ap, ◌∙◌}
use lib.Ieee.{Float, of_bits}
use Rattle.binary32.specs.Arithmetic.{◌⊗◌, ◌⊘◌, constant}
use Rattle.binary32.specs.Casts.{as_u32}
use Rattle.plane.specs.Plane.{tau, turn, onward, bearing}
use Rattle.plane.proofs.bearing.Goals as goal

pub returns : goal.returns
unfolding bearing tau constant of_bits
returns c =
    ap (λ (n : ℕ). c.as_u32.result % n) c.from.ensures
    ∙ ap (λ (n : ℕ). n % turn)
    (c.as_u32.ensures
    ∙ ap (λ (t : Float). as_u32 (t ⊗ constant turn 1))
    (c.onward.ensures ∙ ap (λ (a : Float). onward (a ⊘ tau)) c.atan2f-radians.ensures))
