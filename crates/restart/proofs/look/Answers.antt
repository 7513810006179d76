-- `restart::look` meets its contract: an entry of the recovered ride or a later one is visited.
use Rattle.restart.proofs.Stepping.{not-visited, looked}
use Rattle.restart.proofs.look.Goals as goal

pub returns-then-r-e : goal.returns-then-r-e
returns-then-r-e c = looked c.args.e c.args.r.now c.if-r-e.true c.visit.ensures

pub returns-else-r-e : goal.returns-else-r-e
returns-else-r-e c = not-visited c.args.e c.args.r.now c.args.h.now c.args.crumbs.now c.requires.trail_fit c.if-r-e.false
