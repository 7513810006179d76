-- `steer::off_course` meets its contract.
use mathlib.Core.Path.{refl, sym, ◌∙◌}
use Rattle.steer.proofs.Setting.{off-by}
use Rattle.steer.proofs.off_course.Goals as goal

pub returns-then-eq : goal.returns-then-eq
returns-then-eq c =
    let stopped = c.stop_course.ensures in
    off-by c.args.h.now _ (sym c.if-eq.true ∙ c.eq.ensures) stopped.same stopped.trail stopped.window

pub returns-else-eq : goal.returns-else-eq
returns-else-eq c = off-by c.args.h.now _ (sym c.if-eq.false ∙ c.eq.ensures) (λ b. refl) refl refl
