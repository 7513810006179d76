-- `follow::follow_parts::after_thinning` meets its contract.
use Rattle.follow.specs.Record.{after_thinning}
use Rattle.follow.proofs.follow_parts.after_thinning.Goals as goal

pub returns-then-thinned : goal.returns-then-thinned
unfolding after_thinning
returns-then-thinned c = simp c.if-thinned.true c.left.ensures

pub returns : goal.returns
unfolding after_thinning
returns c = simp c.if-thinned.false
