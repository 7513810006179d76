-- `steer::new` meets its contract.
use mathlib.Core.Path.{refl}
use lib.Ieee.{round, of_bits}
use Rattle.binary32.specs.Arithmetic.{constant}
use Rattle.plane.specs.Fix.{m_per_e7}
use Rattle.trail.specs.View.{empty_window}
use Rattle.calls.specs.Line.{new, no_lap}
use Rattle.steer.proofs.new.Goals as goal

pub returns : goal.returns
unfolding new no_lap m_per_e7 constant round of_bits empty_window
returns c =
    record {
      same = λ b. simp (c.new.ensures.same empty_window b);
      trail = c.new.ensures;
      window = refl;
    }
