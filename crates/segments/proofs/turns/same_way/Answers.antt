-- `segments::turns::same_way` meets its contract: the tests are the rule's.
use borrow.Author.Tests.{le-leb, lt-leb, lt-ltb}
use Rattle.segments.specs.Turn.{same_way}
use Rattle.segments.proofs.turns.Testing.{ltb-not}
use Rattle.segments.proofs.turns.same_way.Goals as goal

pub returns-then-turn : goal.returns-then-turn
unfolding same_way
returns-then-turn c = simp (← c.turned_from-turn.ensures, lt-leb _ _ c.if-turn.true) (lt-ltb _ _ c.if-turn.true)

pub returns-else-turn : goal.returns-else-turn
unfolding same_way
returns-else-turn c = simp (← c.turned_from-turn.ensures, le-leb _ _ c.if-turn.false) (ltb-not 3584 c.turned_from-turn.result)
