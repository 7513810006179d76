-- `trail::Trail::new` holds nothing.
use mathlib.Core.Path.{refl}
use native.Mathlib.Omega.{arith}
use lib.Ieee.{round, of_bits, le, lt}
use Rattle.binary32.specs.Arithmetic.{constant}
use Rattle.crumbs.specs.Crumb.{crumbs}
use Rattle.trail.specs.Trail.{tolerance_m, fresh}
use Rattle.trail.specs.View.{places, track}
use Rattle.trail.proofs.Trail.new.Goals as goal

pub returns : goal.returns
unfolding tolerance_m fresh constant round of_bits le lt crumbs places track
returns c =
    record {
      same = λ w b. refl;
      fit = λ size whole least most.
          record { whole_long = whole; least = least; most = most; held = omega arith; waiting = omega arith; tolerance = refl };
    }
