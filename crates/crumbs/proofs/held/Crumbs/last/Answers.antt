-- `Crumbs::last` gives the crumb behind which there is none, if there is one.
use mathlib.Core.Path.{sym, ap, ◌∙◌}
use native.Mathlib.Omega.{arith}
use Rattle.std.specs.Prelude.{Some}
use Rattle.crumbs.proofs.held.Ends.{last-at}
use Rattle.crumbs.proofs.held.Crumbs.last.Goals as goal

pub returns : goal.returns
returns c = rw c.len-len.ensures at (ap Some c.crumb.ensures) ∙ sym (last-at _ (omega arith))
