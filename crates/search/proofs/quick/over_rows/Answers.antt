-- `search::quick::over_rows` meets its contract: the lead behind the rows tried.
use native.Mathlib.Omega.{arith}
use Rattle.search.proofs.quick.Passing.{passes-start, passes-row}
use Rattle.search.proofs.quick.over_rows.Goals as goal

pub loop-end-init : goal.loop-end-init
loop-end-init c = passes-start _ _ _

pub over_row-leading-requires : goal.over_row-leading-requires
over_row-leading-requires c =
    let row = c.if-end-ends-ge-ROW.true in
    omega (arith, c.loop-end.invariant.upto, c.requires, c.loop-end-test.true, row)

pub overflow_sub-end-in-loop-end : goal.overflow_sub-end-in-loop-end
overflow_sub-end-in-loop-end c =
    let row = c.if-end-ends-ge-ROW.true in
    omega (arith, row)

pub loop-end-smaller : goal.loop-end-smaller
loop-end-smaller c =
    let row = c.if-end-ends-ge-ROW.true in
    omega (arith, row)

pub loop-end-preserved : goal.loop-end-preserved
loop-end-preserved c =
    let row = c.if-end-ends-ge-ROW.true in
    passes-row _ _ _ c.loop-end.invariant c.loop-end-test.true row c.over_row-leading.ensures

pub returns-else-end-ends-ge-ROW : goal.returns-else-end-ends-ge-ROW
returns-else-end-ends-ge-ROW c = c.loop-end.invariant

pub returns-after-loop-end : goal.returns-after-loop-end
returns-after-loop-end c = c.loop-end.invariant
