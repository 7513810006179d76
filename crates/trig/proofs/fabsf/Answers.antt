-- `trig::fabsf` meets its contract: the larger of x and 0 - x is the size of x.
use mathlib.Core.Path.{sym, ap, ◌∙◌}
use mathlib.Core.Bool.{Bool, true, false}
use lib.Ieee.{of_bits}
use Rattle.binary32.specs.Arithmetic.{◌⊖◌}
use Rattle.binary32.specs.Limits.{plus_zero}
use Rattle.trig.specs.Fix.{larger}
use Rattle.trig.proofs.Magnitude.{larger-is}
use Rattle.trig.proofs.fabsf.Goals as goal

pub returns-then-x-minus : goal.returns-then-x-minus
unfolding of_bits larger
returns-then-x-minus c =
    let x = c.args.x in
    sym (ap (λ (b : Bool). elim b [ true ↦ x | false ↦ plus_zero ⊖ x ]) c.if-x-minus.true) ∙ larger-is x c.well_formed.0.1

pub returns-else-x-minus : goal.returns-else-x-minus
unfolding of_bits larger
returns-else-x-minus c =
    let x = c.args.x in
    sym (ap (λ (b : Bool). elim b [ true ↦ x | false ↦ plus_zero ⊖ x ]) c.if-x-minus.false) ∙ larger-is x c.well_formed.0.1
