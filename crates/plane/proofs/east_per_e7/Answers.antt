-- `plane::east_per_e7` meets its contract: each operation is the rule's.
use Rattle.std.proofs.Common.{◌≡◌, ◌^◌, ℤ, ap, ◌∙◌, w32}
use lib.Ieee.{Float, binary32, of_bits, of_int}
use mir.ValLaws.{to_z-of_z}
use Rattle.binary32.specs.Arithmetic.{◌⊗◌, ◌⊘◌, constant}
use Rattle.trig.specs.Fix.{pi, cos}
use Rattle.plane.specs.Fix.{m_per_e7, east_per_e7}
use Rattle.plane.proofs.east_per_e7.Goals as goal

pub returns : goal.returns
unfolding east_per_e7 m_per_e7 pi constant of_bits
returns c =
    let n : c.nearest_i32_to_f32.result ≡ of_int binary32 c.args.lat =
    c.nearest_i32_to_f32.ensures ∙ ap (λ (z : ℤ). of_int binary32 z) (to_z-of_z w32 c.args.lat c.ranges.lat) in
    ap (λ (x : Float). m_per_e7 ⊗ x)
    (c.cosf.ensures ∙ ap (λ (x : Float). cos (x ⊗ constant 1 (10 ^ 7) ⊗ pi ⊘ constant 180 1)) n)
