-- `search::rows::is_nearest` meets its contract.
use mathlib.Core.Bool.{false≢true}
use Rattle.std.proofs.lemmas.Bool.{not_from_true}
use Rattle.search.proofs.rows.Fronting.{settles}
use Rattle.search.proofs.rows.is_nearest.Goals as goal

pub returns-then-not-reaches : goal.returns-then-not-reaches
returns-then-not-reaches c = λ e. absurd (false≢true e)

pub returns-then-off-sqrtf : goal.returns-then-off-sqrtf
returns-then-off-sqrtf c = λ yes.
    settles c.anywhere.ensures (c.reaches.ensures _ _ c.crumb-a.ensures c.crumb-b.ensures)
    (not_from_true _ c.if-not-reaches.false) c.sqrtf.ensures
    c.if-off-sqrtf.true (c.all_behind.ensures yes)

pub returns : goal.returns
returns c = λ e. absurd (false≢true e)
