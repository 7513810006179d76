-- `fix::observe::same_fix` meets its contract.
use mathlib.Core.Path.{◌≡◌, refl, ◌∙◌}
use Rattle.std.specs.Prelude.{Option, Some, None}
use Rattle.std.specs.Option.{option_eq}
use Rattle.plane.specs.declared.Fix.{Fix}
use Rattle.plane.specs.contracts.FixPartialEq.TheImpl.{eq-value as derived}
use Rattle.calls.specs.Fix.{same_fix}
use Rattle.fix.proofs.observe.same_fix.Goals as goal

same : (fed : Option Fix) (x : Fix) → option_eq derived.it fed (Some x) ≡ same_fix fed x
unfolding same_fix
same (Some y) x = refl
same None x = refl

pub returns : goal.returns
returns c = c.eq.ensures ∙ same c.args.fed c.args.fix
