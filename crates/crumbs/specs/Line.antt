-- A line is a list of crumbs. A segment of it is named by its far end: it runs from the crumb before to the one at `end`.
use Rattle.std.specs.Prelude.{ℕ, List, get_or}
use Rattle.std.specs.Float.{nan}
use Rattle.crumbs.specs.declared.Crumb.{Crumb}

-- a crumb that a line lacks
abbrev pub no_crumb : Crumb
no_crumb = record { east = nan; north = nan; along = nan }

-- the crumb at place i
unfoldable pub at : List Crumb → ℕ → Crumb
at line i = get_or line i no_crumb
