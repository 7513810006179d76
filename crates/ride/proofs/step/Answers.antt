-- `ride::step` meets its contract. Two arms are answered so that an edit of what the call is given is refused by what it says.
use Rattle.ride.proofs.Answering.{only-answers}
use Rattle.ride.proofs.step.Goals as goal

pub returns-in-Ask : goal.returns-in-Ask
returns-in-Ask c = rw c.in-Ask.is (only-answers c.in-Ask.query c.args.h.now c.args.crumbs.now)

pub returns-in-SetAutoFollow : goal.returns-in-SetAutoFollow
returns-in-SetAutoFollow c = rw c.in-SetAutoFollow.is c.set_auto_follow.ensures.called

pub returns-in-Observe : goal.returns-in-Observe
returns-in-Observe c = rw c.in-Observe.is c.observe.ensures.called
