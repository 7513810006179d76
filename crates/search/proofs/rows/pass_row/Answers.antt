-- `search::rows::pass_row` meets its contract.
use Rattle.search.proofs.rows.Fronting.{leads-now, leads-still}
use Rattle.search.proofs.rows.pass_row.Goals as goal

pub returns-then-least-front : goal.returns-then-least-front
returns-then-least-front c = λ ends end from next to v.
    leads-now _ _ ends from next to v c.squares_from-row.ensures c.least_of-least.ensures

pub returns : goal.returns
returns c = λ ends end from next to v.
    leads-still _ _ ends from next to v c.squares_from-row.ensures c.least_of-least.ensures
