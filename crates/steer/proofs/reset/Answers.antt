-- `steer::reset` meets its contract.
use Rattle.calls.specs.Fix.{unheaded}
use Rattle.calls.specs.Line.{no_lap, reset}
use Rattle.steer.proofs.reset.Goals as goal

pub returns : goal.returns
unfolding reset no_lap unheaded
returns c =
    record {
      same = λ b. simp ((c.reset.ensures c.args.h.now.window).same b, c.awaiting-h.ensures);
      trail = c.reset.ensures;
    }
