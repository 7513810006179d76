-- `fix::cleared` meets its contract.
use mathlib.Core.Path.{refl}
use Rattle.calls.specs.Fix.{unfixed, cleared}
use Rattle.fix.proofs.cleared.Goals as goal

pub returns : goal.returns
unfolding cleared unfixed
returns c = record { same = λ b. refl; trail = refl; window = refl }
