-- `search::rows::front_row` meets its contract: the rows tried so far have one in front.
use native.Mathlib.Omega.{arith}
use Rattle.search.proofs.rows.Fronting.{front-start, front-end}
use Rattle.search.proofs.rows.front_row.Goals as goal

pub loop-end-init : goal.loop-end-init
loop-end-init c = (omega arith, omega arith, front-start _ _ _ c.requires.row_length_bound)

pub row_at-first-requires : goal.row_at-first-requires
row_at-first-requires c = omega arith

pub pass_row-front-requires : goal.pass_row-front-requires
pass_row-front-requires c = omega arith

pub overflow_add-end : goal.overflow_add-end
overflow_add-end c = omega arith

pub loop-end-smaller : goal.loop-end-smaller
loop-end-smaller c = omega arith

pub loop-end-preserved : goal.loop-end-preserved
loop-end-preserved c =
    let v = c.loop-end.invariant in
    (omega arith, omega arith, c.pass_row-front.ensures _ _ (omega arith) (omega arith) (omega arith) v.2)

pub returns : goal.returns
returns c = let v = c.loop-end.invariant in front-end v.1 c.loop-end-test.false v.2
