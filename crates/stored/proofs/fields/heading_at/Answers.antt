-- `stored::fields::heading_at` meets its contract.
use Rattle.stored.specs.Fields.{heading_at}
use Rattle.stored.proofs.fields.Narrowing.{narrowed}
use Rattle.stored.proofs.fields.heading_at.Goals as goal

pub returns : goal.returns
unfolding heading_at
returns c = simp (c.then_some.ensures, c.flag_at.ensures, c.unwrap_or-heading.ensures, narrowed 65535 _ _ c.try_from.ensures)
