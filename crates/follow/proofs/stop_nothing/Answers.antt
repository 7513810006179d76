-- `follow::stop_nothing` meets its contract.
use mathlib.Core.Path.{refl}
use Rattle.follow.specs.Engage.{stop_nothing}
use Rattle.follow.proofs.stop_nothing.Goals as goal

pub returns : goal.returns
unfolding stop_nothing
returns c = record { same = λ b. simp (← c.stopped-h.ensures); trail = refl; window = refl }
