-- `search::rows::lesser` meets its contract.
use Rattle.search.specs.Rows.{lesser}
use Rattle.search.proofs.rows.lesser.Goals as goal

pub returns-then-x-bar : goal.returns-then-x-bar
unfolding lesser
returns-then-x-bar c = let t = c.if-x-bar.true in rw t

pub returns : goal.returns
unfolding lesser
returns c = let t = c.if-x-bar.false in rw t
