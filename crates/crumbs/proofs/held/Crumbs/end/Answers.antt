-- `Crumbs::end` is the place of the last crumb.
use mathlib.Core.Path.{sym, ap, ◌∙◌}
use native.Mathlib.Omega.{arith}
use Rattle.std.specs.Prelude.{Some, option_map}
use Rattle.crumbs.specs.Crumb.{point}
use Rattle.crumbs.proofs.held.Ends.{last-at}
use Rattle.crumbs.proofs.held.Crumbs.end.Goals as goal

pub returns : goal.returns
returns c =
    ap Some (c.from.ensures ∙ ap point (rw c.len.ensures at c.crumb.ensures)) ∙ sym (ap (option_map point) (last-at _ (omega arith)))
