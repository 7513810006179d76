-- `lap::lap_start` meets its contract.
use mathlib.Core.Path.{◌≡◌, refl, ap, ◌∙◌}
use mathlib.Core.Bool.{Bool, true, false}
use Rattle.std.specs.Prelude.{Option, Some, None}
use Rattle.std.specs.Option.{option_or}
use Rattle.std.specs.Bool.{then_some}
use Rattle.plane.specs.declared.Point.{Point}
use Rattle.lap.specs.Lap.{lap_start}
use Rattle.lap.proofs.lap_start.Goals as goal

same : (moving : Bool) (start : Option Point) (p : Point) → option_or start (then_some moving p) ≡ lap_start moving start p
unfolding lap_start
same moving (Some from) p = refl
same true None p = refl
same false None p = refl

pub returns : goal.returns
returns c = c.or.ensures ∙ ap (option_or c.args.start) c.then_some.ensures ∙ same c.args.moving c.args.start c.args.p
