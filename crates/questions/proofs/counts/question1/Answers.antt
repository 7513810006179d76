-- `questions::counts::question1` meets its contract: the tests are the rule's.
use Rattle.calls.specs.Questions.{question1}
use Rattle.questions.proofs.counts.question1.Goals as goal

pub returns : goal.returns
unfolding question1
returns c = simp (← c.capacity-room.ensures, ← c.whole.ensures)
