-- The walk along the chain meets its contract: the record that comes next is the first of what is left.
use native.Mathlib.Omega.{arith}
use mathlib.Core.Path.{refl, sym, ◌∙◌}
use Rattle.std.proofs.Common.{rules}
use Rattle.ride_log.specs.Chain.{left}
use Rattle.ride_log.proofs.Records.{none-of-none, none-at-end, first-of}
use Rattle.ride_log.proofs.ChainIterator.next.Goals as goal

pub returns-then-self-eq0-clause-steps : goal.returns-then-self-eq0-clause-steps
unfolding left
returns-then-self-eq0-clause-steps c = let none = none-of-none _ _ _ c.if-self-eq0.true in (none, none, refl)

pub returns-then-next-eq0-clause-steps : goal.returns-then-next-eq0-clause-steps
unfolding left
returns-then-next-eq0-clause-steps c =
    let none = none-at-end _ _ _ (sym c.next_of-next.ensures ∙ c.if-next-eq0.true) in (none, none, refl)

pub returns-clause-steps : goal.returns-clause-steps
unfolding left
returns-clause-steps c =
    (first-of _ _ _ _ c.if-self-eq0.false c.if-next-eq0.false c.next_of-next.ensures, omega (arith, c.if-self-eq0.false))

pub returns-clause-goes : goal.returns-clause-goes
unfolding left
returns-clause-goes c = search (rules, first-of)
