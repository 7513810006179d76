-- `follow::add` meets its contract.
use Rattle.trail.specs.Trail as trail
use Rattle.follow.specs.Record.{add_in}
use Rattle.follow.proofs.Recording.{taken-over}
use Rattle.follow.proofs.add.Goals as goal

pub returns : goal.returns
unfolding add_in
returns c =
    let a = c.args in
    taken-over (λ C. trail.add C a.p) a.h.now c.add-thinned.ensures c.after_thinning-h.ensures
