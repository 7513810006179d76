-- `thin::pass` is the rule's pass, compacted in place.
use Prim.Native.Nat.{◌-◌}
use mathlib.Core.Path.{◌≡◌, ◌∙◌}
use native.Mathlib.Omega.{arith}
use Rattle.thin.proofs.Passing.{passed-few, kept-along, kept-end, kept_put, next-on, next-inside, next_last}
use Rattle.thin.proofs.pass.Goals as goal

pub returns-then-len-le2 : goal.returns-then-len-le2
returns-then-len-le2 c = passed-few _ (omega arith)

pub start-anchor-requires : goal.start-anchor-requires
start-anchor-requires c = omega arith

pub overflow_add-kept : goal.overflow_add-kept
overflow_add-kept c = let s = c.start-anchor.ensures in omega (arith, s.within)

pub loop-anchor-init : goal.loop-anchor-init
loop-anchor-init c =
    kept-along c.requires (c.start-anchor.ensures) _ (omega arith)

pub overflow_add-anchor : goal.overflow_add-anchor
overflow_add-anchor c = omega arith

pub overflow_sub-len : goal.overflow_sub-len
overflow_sub-len c = omega arith

pub next-anchor-requires : goal.next-anchor-requires
next-anchor-requires c = omega arith

pub crumb_at-c-requires : goal.crumb_at-c-requires
crumb_at-c-requires c =
    let inside = next-inside c.loop-anchor.invariant (omega arith) c.next-anchor.ensures in
    omega (arith, c.loop-anchor.invariant)

pub put-requires : goal.put-requires
put-requires c = omega (arith, c.loop-anchor.invariant)

pub overflow_add-kept-in-loop-anchor : goal.overflow_add-kept-in-loop-anchor
overflow_add-kept-in-loop-anchor c = omega arith

pub loop-anchor-smaller : goal.loop-anchor-smaller
loop-anchor-smaller c =
    omega (arith, next-on c.loop-anchor.invariant (omega arith), c.next-anchor.ensures)

pub loop-anchor-preserved : goal.loop-anchor-preserved
loop-anchor-preserved c =
    kept_put c.loop-anchor.invariant (omega arith) c.next-anchor.ensures
    c.put.ensures
    c.crumb_at-c.ensures

pub overflow_sub-len-2 : goal.overflow_sub-len-2
overflow_sub-len-2 c = omega arith

pub shape_of-buf-then-anchor-len : goal.shape_of-buf-then-anchor-len
shape_of-buf-then-anchor-len c = c.loop-anchor.invariant.size

pub returns-then-anchor-len : goal.returns-then-anchor-len
returns-then-anchor-len c = rw (← c.new-bounds.ensures) (kept-end c.loop-anchor.invariant (omega arith))

pub overflow_sub-len-3 : goal.overflow_sub-len-3
overflow_sub-len-3 c = omega arith

pub crumb_at-last-requires : goal.crumb_at-last-requires
crumb_at-last-requires c = omega (arith, c.loop-anchor.invariant)

pub put-requires-2 : goal.put-requires-2
put-requires-2 c = omega (arith, c.loop-anchor.invariant)

pub overflow_add-result : goal.overflow_add-result
overflow_add-result c = omega arith

pub shape_of-buf : goal.shape_of-buf
shape_of-buf c = c.put-2.auto.buf ∙ c.loop-anchor.invariant.size

pub returns : goal.returns
returns c =
    let no : c.loop-anchor.anchor ≡ c.args.len - 1 → ⊥ =
    c.if-anchor-len.false in
    rw (← c.new-bounds.ensures)
    (kept-end
    (kept_put c.loop-anchor.invariant (omega arith) (next_last c.loop-anchor.invariant (omega arith)) c.put-2.ensures
    c.crumb_at-last.ensures)
    (omega arith))
