-- `Crumbs::recorded_m` measures on from the last crumb, if there is one.
use lib.Ieee.{of_bits}
use Rattle.std.proofs.Common.{rules}
use Rattle.crumbs.proofs.held.Ends.{recorded-is}
use Rattle.crumbs.proofs.held.Crumbs.recorded_m.Goals as goal

pub returns : goal.returns
unfolding of_bits
returns c = recorded-is _ c.args.p c.last.ensures c.map_or.ensures (λ a k. search rules)
