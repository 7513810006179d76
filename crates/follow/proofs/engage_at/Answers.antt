-- `follow::engage_at` meets its contract.
use mathlib.Core.Path.{refl}
use Rattle.follow.specs.Engage.{engage_at}
use Rattle.follow.proofs.engage_at.Goals as goal

pub returns : goal.returns
unfolding engage_at
returns c = record { same = λ b. simp (← c.course_from-h.ensures); trail = refl; window = refl }
