-- For the functions inside: the segment whose square is the least. What the search gives is `nearest_on_breadcrumb`.
use Rattle.std.specs.Prelude.{ℕ, zero, suc, ◌-◌, ◌≤◌, ◌<◌, ◌≡◌, Bool, not, ◌||◌, cond, List, eqb, Float}
use Rattle.std.specs.Float.Ieee.{lt}
use Rattle.plane.specs.declared.Point.{Point}
use Rattle.crumbs.specs.declared.Crumb.{Crumb}
use Rattle.segments.specs.declared.Stretch.{Stretch}
use Rattle.crumbs.specs.Line.{at}
use Rattle.segments.specs.Square.{square_on}
use Rattle.search.specs.declared.Range.{Range}
use Rattle.search.specs.declared.quick.Lead.{Lead}
use Rattle.search.specs.declared.quick.Passed.{Passed}

-- whether segment `end` reaches into a stretch
unfoldable pub reaches : List Crumb → Stretch → ℕ → Bool
reaches line within end = not (lt (at line end).along within.floor || lt within.ceiling (at line (end - 1)).along)

-- segment `end` with its square, after the one in the lead
unfoldable pub overtakes : ℕ → Float → Lead → Lead
overtakes end s lead =
    cond (eqb lead.best 0) (record { best = end; least = s; before = lead.before })
    (cond (lt s lead.least) (record { best = end; least = s; before = lead.least }) lead)

unfoldable pub takes_lead : List Crumb → Point → Stretch → ℕ → Lead → Lead
takes_lead line p within end lead = cond (reaches line within end) (overtakes end (square_on line p end) lead) lead

-- `left` segments one after the other, from `end` down
unfoldable pub leads_down : List Crumb → Point → Stretch → ℕ → ℕ → Lead → Lead
leads_down line p within zero end lead = lead
leads_down line p within (suc left) end lead = leads_down line p within left (end - 1) (takes_lead line p within end lead)

-- the lead behind the segments of a range above an end, which lies in the range where there is any above it
pub record Passes (line : List Crumb) (p : Point) (within : Stretch) (ends : Range) (lead : Lead) (passed : Passed) : Type 0 where
  pub upto : passed.end ≤ ends.to
  pub from : passed.end < ends.to → ends.from ≤ passed.end
  pub leads : passed.lead ≡ leads_down line p within (ends.to - passed.end) ends.to lead
