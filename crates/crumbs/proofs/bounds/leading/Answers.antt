-- `crumbs::bounds::leading` goes on by rows that lie between.
use mathlib.Core.Path.{refl}
use native.Mathlib.Omega.{arith}
use Rattle.std.proofs.Common.{rules, ◌*◌}
use Rattle.crumbs.specs.Bounds.{RowBetween}
use Rattle.crumbs.proofs.Fronts.{before-first}
use Rattle.crumbs.proofs.bounds.Rows.{leading-rows}
use Rattle.crumbs.proofs.bounds.leading.Goals as goal

pub returns : goal.returns
returns c =
    let f = before-first (λ k. RowBetween c.row_of-low.result c.row_of-high.result c.args.buf.now (16 * k)) c.position.ensures.ran refl
    (λ x q k. search rules) in
    let g = rw (← c.unwrap_or-passed.ensures) at f in
    leading-rows c.row_of-low.ensures c.row_of-high.ensures (omega (arith, g.0)) g.1
