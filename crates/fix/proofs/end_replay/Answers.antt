-- `fix::end_replay` meets its contract.
use mathlib.Core.Path.{refl}
use Rattle.calls.specs.Fix.{unheaded, end_replay}
use Rattle.fix.proofs.end_replay.Goals as goal

pub returns : goal.returns
unfolding end_replay unheaded
returns c = record { same = λ b. refl; trail = refl; window = refl }
