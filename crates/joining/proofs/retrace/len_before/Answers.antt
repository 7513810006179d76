-- `joining::retrace::len_before` meets its contract.
use borrow.Author.Tests.{eq-eqb, ne_eqb}
use Rattle.crumbs.proofs.Crumbs.{length-crumbs}
use Rattle.trail.specs.View.{track}
use Rattle.joining.specs.Retrace.{len_before}
use Rattle.joining.proofs.retrace.len_before.Goals as goal

pub returns-then-t-eq0 : goal.returns-then-t-eq0
unfolding len_before track
returns-then-t-eq0 c = λ w b. simp (eq-eqb _ _ c.if-t-eq0.true, length-crumbs)

pub returns-else-t-eq0 : goal.returns-else-t-eq0
unfolding len_before track
returns-else-t-eq0 c = λ w b. simp (ne_eqb _ _ c.if-t-eq0.false)
