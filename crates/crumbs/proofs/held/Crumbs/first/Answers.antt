-- `Crumbs::first` gives the crumb at place 0, if there is one.
use mathlib.Core.Path.{sym, ap, ◌∙◌}
use native.Mathlib.Omega.{arith}
use Rattle.std.specs.Prelude.{Some}
use Rattle.crumbs.proofs.held.Ends.{first-at}
use Rattle.crumbs.proofs.held.Crumbs.first.Goals as goal

pub returns : goal.returns
returns c = ap Some c.crumb.ensures ∙ sym (first-at _ (omega arith))
