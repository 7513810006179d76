-- `questions::counts::question4` meets its contract: the tests are the rule's.
use Rattle.calls.specs.Questions.{question4}
use Rattle.questions.proofs.counts.question4.Goals as goal

pub returns : goal.returns
unfolding question4
returns c = simp (← c.capacity-room.ensures, ← c.whole.ensures)
