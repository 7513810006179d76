-- `thin::next` goes as far as the rule's step.
use mathlib.Core.Path.{ap, sym, ◌∙◌}
use native.Mathlib.Omega.{arith}
use Prim.Native.Nat.{◌+◌}
use Rattle.thin.specs.Inner.{step_by}
use Rattle.thin.proofs.Passing.{step-halving}
use Rattle.thin.proofs.next.Goals as goal

pub returns-then-halve : goal.returns-then-halve
returns-then-halve c =
    let a = c.args in
    rw c.if-halve.true (ap (λ n. a.anchor + n) (sym (step-halving a.bounds.tolerance a.buf.now a.len a.anchor (omega arith))))

pub returns : goal.returns
unfolding step_by
returns c = c.reach.ensures ∙ rw (c.if-halve.false, step_by)
