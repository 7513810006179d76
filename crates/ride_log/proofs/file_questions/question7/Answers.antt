-- `ride_log::file_questions::question7` meets its contract: a chain of as many records as there are has reached one of them twice.
use Rattle.ride_log.proofs.file_questions.Asking.{meeting-next, meeting-out, meeting-end}
use Rattle.ride_log.proofs.file_questions.question7.Goals as goal

pub returns-then-count-index : goal.returns-then-count-index
returns-then-count-index c = meeting-out c.loop-index.invariant c.in-Some.ensures.steps.0 c.requires.0 c.if-count-index.true

pub loop-index-preserved : goal.loop-index-preserved
loop-index-preserved c =
    meeting-next c.loop-index.invariant c.in-Some.ensures.steps.0 c.in-Some.ensures.steps.1 c.if-count-index.false

pub returns : goal.returns
returns c =
    let e = c.in_default.ensures.steps in
    meeting-end c.loop-index.invariant e.2 c.requires.0 c.requires.1 e.0
