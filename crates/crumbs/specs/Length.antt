-- For the functions inside: how long a line is.
use Rattle.std.specs.Prelude.{◌-◌, leb, cond, length, List, Float, Option, Some, None}
use Rattle.crumbs.specs.declared.Crumb.{Crumb}
use Rattle.crumbs.specs.Line.{at}

-- how far along its last crumb lies, where the line has a segment
unfoldable pub length_m : List Crumb → Option Float
length_m l = cond (leb 2 (length l)) (Some (at l (length l - 1)).along) None
