-- `follow::stop_course` meets its contract.
use mathlib.Core.Path.{refl}
use Rattle.follow.specs.Engage.{stop_course}
use Rattle.follow.proofs.stop_course.Goals as goal

pub returns : goal.returns
unfolding stop_course
returns c = record { same = λ b. simp (← c.stopped-h.ensures, ← c.held_off-h.ensures); trail = refl; window = refl }
