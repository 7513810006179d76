-- `steer::way_home::way_home` meets its contract.
use mathlib.Core.Path.{◌∙◌}
use Rattle.steer.proofs.way_home.Fitting.{home-fits}
use Rattle.steer.proofs.way_home.Deciding.{goes-home, no-way}
use Rattle.steer.proofs.way_home.way_home.Goals as goal

pub brought-requires : goal.brought-requires
brought-requires c = home-fits c.args.course.now c.args.now_ms (rw c.if-engage.true at c.engage.ensures) c.flush.ensures.follows.fit

pub returns-then-engage : goal.returns-then-engage
returns-then-engage c =
    record {
      decides = goes-home c.args.course.now c.args.now_ms c.flush.ensures.follows (rw c.if-engage.true at c.engage.ensures)
          c.brought.ensures.decides;
      window = c.brought.ensures.window ∙ c.engage.ensures.window ∙ c.flush.ensures.window;
    }

pub returns-else-engage : goal.returns-else-engage
returns-else-engage c =
    record {
      decides = rw c.if-engage.false
          (no-way c.args.course.now c.args.now_ms c.flush.ensures.follows (rw c.if-engage.false at c.engage.ensures));
      window = c.engage.ensures.window ∙ c.flush.ensures.window;
    }
