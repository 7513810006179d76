-- `search::joined` meets its contract: the ends below decide.
use Prim.Native.Nat.{◌-◌}
use mathlib.Core.Path.{sym, ap, ◌∙◌}
use native.Mathlib.Omega.{arith}
use Rattle.search.specs.Course.{joined_from, joined}
use Rattle.search.proofs.Walking.{joined-out, joined-here, joined-below}
use Rattle.search.proofs.joined.Goals as goal

pub loop-end-init : goal.loop-end-init
unfolding joined
loop-end-init c = (omega arith, ap (λ n. joined_from c.args.line.now c.args.p c.args.heading (n - 1)) c.len-end.ensures)

pub crumb-requires : goal.crumb-requires
crumb-requires c = omega arith

pub crumb-requires-in-loop-end : goal.crumb-requires-in-loop-end
crumb-requires-in-loop-end c = omega arith

pub returns-then-joins : goal.returns-then-joins
returns-then-joins c =
    sym (joined-here _ _ _ _ (omega arith) c.crumb.ensures c.crumb-in-loop-end.ensures c.joins.ensures
    c.if-joins.true)
    ∙ c.loop-end.invariant.1

pub loop-end-preserved : goal.loop-end-preserved
loop-end-preserved c = (
  omega arith,
  sym (joined-below _ _ _ _ (omega arith) c.crumb.ensures c.crumb-in-loop-end.ensures c.joins.ensures
      c.if-joins.false)
      ∙ c.loop-end.invariant.1,
)

pub returns : goal.returns
returns c = sym (joined-out _ _ _ _ (omega arith)) ∙ c.loop-end.invariant.1
