-- `trig::quotient` meets its contract: each answer by the test that led there.
use mathlib.Core.Path.{ap, ◌∙◌}
use lib.Ieee.{Float, binary32, div}
use Rattle.trig.specs.Fix.{smaller, larger, quotient}
use Rattle.trig.proofs.quotient.Goals as goal
use Rattle.trig.proofs.quotient.Goals.{then-a-b, else-a-b}

pub returns : goal.returns
unfolding quotient smaller larger
returns c =
    elim c.if-a-b.branch [
      | then-a-b w ↦ ap (λ (p : Float × Float). div binary32 p.0 p.1) w.smaller-is ∙ rw (w.if-a-b.true, smaller, larger)
      | else-a-b w ↦ ap (λ (p : Float × Float). div binary32 p.0 p.1) w.smaller-is ∙ rw (w.if-a-b.false, smaller, larger)
    ]
