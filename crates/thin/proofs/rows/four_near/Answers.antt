-- `thin::rows::four_near` tests each of the four.
use Rattle.thin.proofs.Testing.{each-four}
use Rattle.thin.proofs.rows.four_near.Goals as goal

pub returns : goal.returns
returns c =
    each-four c.near-one.ensures c.near-two.ensures c.near-three.ensures
    c.near-four.ensures
