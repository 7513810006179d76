-- `follow::keep` meets its contract.
use mathlib.Core.Path.{refl}
use Rattle.trail.specs.Trail as trail
use Rattle.follow.specs.Record.{keep_in}
use Rattle.follow.proofs.Recording.{taken-over}
use Rattle.follow.proofs.keep.Goals as goal

pub returns : goal.returns
unfolding keep_in
returns c =
    let a = c.args in
    record {
      follows = taken-over (λ C. trail.keep C a.p) a.h.now (c.keep-thinned.ensures a.h.now.window) c.after_thinning-h.ensures;
      window = refl;
    }
