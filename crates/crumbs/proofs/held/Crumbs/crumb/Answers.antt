-- `Crumbs::crumb` reads the crumb of the buffer.
use Prim.Native.Nat.{◌<◌}
use mathlib.Core.Path.{sym, ap, ◌∙◌}
use native.Mathlib.Omega.{arith}
use lib.ListN.{length}
use Rattle.crumbs.proofs.Crumbs.{length-crumbs, at_held}
use Rattle.crumbs.proofs.held.Crumbs.crumb.Goals as goal

pub crumb_at-requires : goal.crumb_at-requires
crumb_at-requires c = omega (arith, length-crumbs c.self.inside.len c.self.inside.buf.now, ap length c.self.view_is)

pub returns : goal.returns
returns c =
    let h : c.args.i < c.self.inside.len = omega (arith, length-crumbs c.self.inside.len c.self.inside.buf.now, ap length c.self.view_is) in
    rw (← c.self.view_is) (c.crumb_at.ensures ∙ sym (at_held _ _ _ h))
