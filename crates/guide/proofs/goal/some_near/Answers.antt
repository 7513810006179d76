-- `guide::goal::some_near` meets its contract: the ends below decide.
use Prim.Native.Nat.{◌-◌}
use mathlib.Core.Path.{sym, ap, ◌∙◌}
use Rattle.guide.specs.Near.{some_near}
use native.Mathlib.Omega.{arith}
use Rattle.guide.proofs.goal.Nearing.{some-here, some_below, some_out}
use Rattle.guide.proofs.goal.some_near.Goals as goal

pub loop-end-init : goal.loop-end-init
loop-end-init c = (omega arith, ap (λ n. some_near c.args.course.now c.args.p (n - 1)) c.len-end.ensures)

pub lies_near-requires : goal.lies_near-requires
lies_near-requires c = omega arith

pub returns-then-lies_near : goal.returns-then-lies_near
returns-then-lies_near c = some-here _ _ _ c.lies_near.ensures (omega arith) c.if-lies_near.true ∙ c.loop-end.invariant.1

pub loop-end-preserved : goal.loop-end-preserved
loop-end-preserved c = (
  omega arith,
  sym (some_below _ _ _ c.lies_near.ensures (omega arith) c.if-lies_near.false) ∙ c.loop-end.invariant.1,
)

pub returns : goal.returns
returns c = some_out _ _ _ (omega arith) ∙ c.loop-end.invariant.1
