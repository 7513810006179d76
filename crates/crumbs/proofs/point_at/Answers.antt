-- `crumbs::point_at` gives the place of the crumb that it reads.
use mathlib.Core.Path.{ap, ◌∙◌}
use Rattle.crumbs.specs.Crumb.{point}
use Rattle.crumbs.proofs.point_at.Goals as goal

pub returns : goal.returns
returns c = c.from.ensures ∙ ap point c.crumb_at.ensures
