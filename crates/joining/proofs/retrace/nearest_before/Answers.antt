-- `joining::retrace::nearest_before` meets its contract.
use borrow.Author.Tests.{lt-leb, le-leb}
use Rattle.joining.specs.Retrace.{nearest_before}
use Rattle.joining.proofs.retrace.nearest_before.Goals as goal

pub returns-then-n-lt2 : goal.returns-then-n-lt2
unfolding nearest_before
returns-then-n-lt2 c = simp (lt-leb _ _ c.if-n-lt2.true)

pub returns : goal.returns
unfolding nearest_before
returns c = simp (le-leb _ _ c.if-n-lt2.false, c.nearest_on_breadcrumb.ensures)
