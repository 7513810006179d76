-- `search::rows::nearest_on_breadcrumb` meets its contract: where the segment in front settles it, and where it does not.
use native.Mathlib.Omega.{arith}
use Rattle.search.proofs.rows.Fronting.{nearest-in-front}
use Rattle.search.proofs.rows.nearest_on_breadcrumb.Goals as goal

pub front_row-row-requires : goal.front_row-row-requires
front_row-row-requires c =
    record { le_from = c.requires; row_length_bound = omega (arith, c.if-ends.true, c.if-ends-ge-ROW.true) }

pub nearest_on-near-requires : goal.nearest_on-near-requires
nearest_on-near-requires c =
    let pre = c.requires in
    let v = c.front_segment-front.ensures _ c.front_row-row.ensures in
    (omega (arith, pre.0, v.from), omega (arith, pre.1, v.to))

pub is_nearest-requires : goal.is_nearest-requires
is_nearest-requires c =
    let pre = c.requires in
    let v = c.front_segment-front.ensures _ c.front_row-row.ensures in
    (pre.0, v.from, omega (arith, pre.1, v.to))

pub returns-then-is_nearest : goal.returns-then-is_nearest
returns-then-is_nearest c =
    nearest-in-front (c.front_segment-front.ensures _ c.front_row-row.ensures) c.nearest_on-near.ensures
    (c.is_nearest.ensures c.if-is_nearest.true)
