-- `follow::flush` meets its contract.
use mathlib.Core.Path.{refl}
use Rattle.trail.specs.Trail as trail
use Rattle.follow.specs.Record.{flush_in}
use Rattle.follow.proofs.Recording.{taken-over}
use Rattle.follow.proofs.flush.Goals as goal

pub returns : goal.returns
unfolding flush_in
returns c =
    let a = c.args in
    record { follows = taken-over trail.flush a.h.now c.flush-thinned.ensures c.after_thinning-h.ensures; window = refl }
