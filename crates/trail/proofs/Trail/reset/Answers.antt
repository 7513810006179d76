-- `trail::Trail::reset` leaves nothing of the breadcrumb.
use mathlib.Core.Path.{refl}
use native.Mathlib.Omega.{arith}
use lib.Ieee.{round, of_bits, le, lt}
use Rattle.binary32.specs.Arithmetic.{constant}
use Rattle.crumbs.specs.Crumb.{crumbs}
use Rattle.trail.specs.Trail.{tolerance_m, reset_track}
use Rattle.trail.specs.View.{places, track}
use Rattle.trail.proofs.Trail.reset.Goals as goal

pub returns : goal.returns
unfolding tolerance_m reset_track constant round of_bits le lt crumbs places track
returns c = λ w.
    record {
      same = λ b. refl;
      fit = λ size f.
          record {
            whole_long = f.whole_long;
            least = f.least;
            most = f.most;
            held = omega arith;
            waiting = omega arith;
            tolerance = refl;
          };
    }
