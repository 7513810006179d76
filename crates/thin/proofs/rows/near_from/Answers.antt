-- `thin::rows::near_from` goes on by fours.
use Prim.Native.Nat.{◌+◌, ◌*◌}
use mathlib.Core.Path.{refl}
use native.Mathlib.Omega.{arith}
use Rattle.std.proofs.Common.{rules}
use Rattle.crumbs.proofs.Fronts.{before-first}
use Rattle.thin.specs.Rows.{near, Each}
use Rattle.thin.proofs.Testing.{each-rows}
use Rattle.thin.proofs.rows.near_from.Goals as goal

pub returns : goal.returns
returns c =
    let f = before-first (λ k. Each (near c.args.buf.now c.args.a c.args.b c.args.lo) (c.args.from + 4 * k) (c.args.from + 4 * k + 4))
    c.position.ensures.ran refl (λ x q k. search rules) in
    let g = rw (← c.unwrap_or-passed.ensures) at f in
    (omega arith, omega (arith, g.0), each-rows c.args.from 4 _ g.1)
