-- `stored::parts::shown_at` meets its contract.
use Rattle.stored.specs.Parts.{shown_at}
use Rattle.stored.proofs.parts.shown_at.Goals as goal

pub returns : goal.returns
unfolding shown_at
returns c = simp (c.then_some.ensures, c.flag_at.ensures, c.guide_at.ensures)
