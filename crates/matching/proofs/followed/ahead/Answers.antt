-- `matching::followed::ahead` meets its contract.
use mathlib.Core.Path.{ap, ◌∙◌}
use lib.Ieee.{of_bits}
use Rattle.binary32.specs.Arithmetic.{constant}
use Rattle.matching.specs.Distances.{lookahead_m}
use Rattle.search.specs.Along.{at_along}
use Rattle.matching.proofs.followed.ahead.Goals as goal

pub returns : goal.returns
unfolding lookahead_m constant of_bits
returns c = c.at_along.ensures ∙ ap (at_along c.args.line.now c.args.near.end) c.max_zero-along.ensures
