-- `motion::spot_or` meets its contract: the library's word for it is a definition of its own.
use mathlib.Core.Path.{◌≡◌, refl, ◌∙◌}
use Rattle.std.specs.Prelude.{Option, Some, None}
use Rattle.std.specs.Option.{unwrap_or}
use Rattle.plane.specs.declared.Point.{Point}
use Rattle.motion.specs.Heading.{spot_or}
use Rattle.motion.proofs.spot_or.Goals as goal

same : (s : Option Point) (p : Point) → unwrap_or s p ≡ spot_or s p
unfolding spot_or
same (Some q) p = refl
same None p = refl

pub returns : goal.returns
returns c = c.unwrap_or.ensures ∙ same c.args.s c.args.p
