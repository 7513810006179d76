-- `joining::retrace::backwards` meets its contract.
use borrow.Author.Tests.{lt-ltb, le-ltb}
use Rattle.joining.specs.Retrace.{backwards}
use Rattle.joining.proofs.retrace.backwards.Goals as goal

pub returns-then-turn : goal.returns-then-turn
unfolding backwards
returns-then-turn c = simp (← c.turned_from-turn.ensures, lt-ltb _ _ c.if-turn.true)

pub returns-else-turn : goal.returns-else-turn
unfolding backwards
returns-else-turn c = simp (← c.turned_from-turn.ensures, le-ltb _ _ c.if-turn.false)
