-- `answers::course` meets its contract.
use Rattle.calls.specs.Calls.{asks_lent, asks}
use Rattle.answers.proofs.Answering.{course_held}
use Rattle.answers.proofs.course.Goals as goal

pub returns : goal.returns
unfolding asks asks_lent
returns c =
    let passed = c.in_ok-asks_line.ensures in
    let fits = course_held c.args.h.now c.args.line.now passed in
    record { answered = passed; numbers = c.front.ensures.numbers fits; held = c.front.ensures.held fits }
