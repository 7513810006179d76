-- `thin::reach` is the rule's reach.
use Prim.Native.Nat.{◌-◌, ◌<◌}
use mathlib.Core.Path.{refl}
use native.Mathlib.Omega.{arith}
use Rattle.thin.proofs.Reaching.{ends-start, ends-out, ends_on, ends-stray, between-on}
use Rattle.thin.proofs.Rowing.{between-near}
use Rattle.thin.proofs.Bounding.{stays, leaves}
use Rattle.thin.proofs.reach.Goals as goal
use Rattle.thin.proofs.reach.Goals.{
  then-ends-test+else-end-anchor-le-SPAN,
  else-ends-test,
  then-ends-test+then-end-anchor-le-SPAN+then-loop-j-test+then-strays,
}

pub overflow_add-end : goal.overflow_add-end
overflow_add-end c = omega arith

pub ends-init : goal.ends-init
ends-init c = ends-start c.requires.0

pub overflow_sub-end : goal.overflow_sub-end
overflow_sub-end c = omega arith

pub overflow_add-anchor : goal.overflow_add-anchor
overflow_add-anchor c = omega arith

pub near_from-first-requires : goal.near_from-first-requires
near_from-first-requires c = omega arith

pub loop-j-init : goal.loop-j-init
loop-j-init c =
    between-near c.ends.invariant c.ends-test.true c.if-end-anchor-le-SPAN.true
    c.args.bounds.under
    c.point_at-a.ensures
    c.point_at-b.ensures
    c.near_from-first.ensures

pub overflow_step-j : goal.overflow_step-j
overflow_step-j c = omega arith

pub loop-j-smaller : goal.loop-j-smaller
loop-j-smaller c = omega arith

pub loop-j-preserved : goal.loop-j-preserved
loop-j-preserved c =
    between-on c.ends.invariant c.ends-test.true c.if-end-anchor-le-SPAN.true
    c.loop-j.invariant
    c.loop-j-test.true
    refl
    (stays _ c.strays.ensures c.point_at-p.ensures c.point_at-a.ensures
    c.point_at-b.ensures c.if-strays.false)

pub overflow_add-end-in-ends : goal.overflow_add-end-in-ends
overflow_add-end-in-ends c = omega arith

pub ends-smaller : goal.ends-smaller
ends-smaller c = omega arith

pub ends-preserved : goal.ends-preserved
ends-preserved c =
    ends_on c.ends.invariant c.ends-test.true c.if-end-anchor-le-SPAN.true
    c.loop-j.invariant
    c.loop-j-test.false

pub overflow_sub-result : goal.overflow_sub-result
overflow_sub-result c = omega arith

pub returns : goal.returns
returns c =
    elim c.ends-test.branch [
      | then-ends-test+else-end-anchor-le-SPAN w ↦
          ends-out c.ends.invariant (let far : 256 < c.ends.end - c.args.anchor = w.if-end-anchor-le-SPAN.false in omega arith)
      | else-ends-test w ↦ ends-out c.ends.invariant (omega arith)
      | then-ends-test+then-end-anchor-le-SPAN+then-loop-j-test+then-strays w ↦
          ends-stray c.ends.invariant w.ends-test.true w.if-end-anchor-le-SPAN.true w.loop-j.invariant w.loop-j-test.true
          refl
          (leaves _ w.strays.ensures w.point_at-p.ensures c.point_at-a.ensures w.point_at-b.ensures w.if-strays.true)
    ]
