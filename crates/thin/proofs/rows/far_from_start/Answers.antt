-- `thin::rows::far_from_start` goes on by sixteens.
use Prim.Native.Nat.{◌+◌, ◌*◌}
use mathlib.Core.Path.{refl}
use native.Mathlib.Nat.{zero-add}
use native.Mathlib.Omega.{arith}
use Rattle.std.proofs.Common.{rules}
use Rattle.crumbs.proofs.Fronts.{before-first}
use Rattle.thin.specs.Rows.{far, Each}
use Rattle.thin.proofs.Testing.{each-rows}
use Rattle.thin.proofs.rows.far_from_start.Goals as goal

pub returns : goal.returns
returns c =
    let f = before-first (λ k. Each (far c.args.buf.now c.args.hi) (16 * k) (16 * k + 16)) c.position.ensures.ran refl
    (λ x q k. search rules) in
    let g = rw (← c.unwrap_or-passed.ensures) at f in
    let w = each-rows {test = far c.args.buf.now c.args.hi} 0 16 c.unwrap_or-passed.result (simp zero-add g.1) in
    (omega (arith, g.0), simp zero-add at w)
