-- `search::rows::all_behind` meets its contract.
use mathlib.Core.Bool.{false≢true}
use mathlib.Core.Logic.{inl}
use Rattle.std.proofs.lemmas.Bool.{not_from_true}
use Rattle.search.proofs.rows.Fronting.{farther}
use Rattle.search.proofs.rows.all_behind.Goals as goal

pub returns-then-front-from : goal.returns-then-front-from
returns-then-front-from c = λ _. inl c.if-front-from.true

pub returns-then-not-reaches : goal.returns-then-not-reaches
returns-then-not-reaches c = λ e. absurd (false≢true e)

pub returns : goal.returns
returns c =
    farther c.anywhere.ensures (c.reaches.ensures _ _ c.crumb-a.ensures c.crumb-b.ensures)
    (not_from_true _ c.if-not-reaches.false) c.nearest_on-first.ensures
    c.sqrtf.ensures
