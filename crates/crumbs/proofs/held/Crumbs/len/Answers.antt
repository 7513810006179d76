-- `Crumbs::len` counts the crumbs.
use mathlib.Core.Path.{sym}
use Rattle.crumbs.proofs.Crumbs.{length-crumbs}
use Rattle.crumbs.proofs.held.Crumbs.len.Goals as goal

pub returns : goal.returns
returns c = rw (← c.self.view_is) (sym (length-crumbs _ _))
