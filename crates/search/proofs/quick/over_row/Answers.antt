-- `search::quick::over_row` meets its contract: where none reaches into the stretch, the lead stays.
use Rattle.search.proofs.quick.Passing.{row_stays}
use Rattle.search.proofs.quick.over_row.Goals as goal

pub returns-then-any_reaches : goal.returns-then-any_reaches
returns-then-any_reaches c = c.along_row.ensures

pub returns : goal.returns
returns c = row_stays _ _ _ _ (c.any_reaches.ensures c.if-any_reaches.false)
