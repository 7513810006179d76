-- `stored::load` meets its contract.
use borrow.Author.Rules.{rules}
use mathlib.Core.Path.{◌∙◌}
use Rattle.stored.proofs.Holding.{few-words, few-numbers, stored-front}
use Rattle.stored.proofs.fields.Same.{then-made}
use Rattle.stored.proofs.load.Goals as goal

pub returns-in_err-words : goal.returns-in_err-words
returns-in_err-words c = c.from_residual.ensures ∙ few-words _ _ c.in_err-words.ensures.cases

pub returns-in_err-numbers : goal.returns-in_err-numbers
returns-in_err-numbers c = c.from_residual-in_err-numbers.ensures ∙ few-numbers _ _ c.in_err-numbers.ensures.cases

pub returns : goal.returns
returns c =
    then-made _ _ _ (c.then.ensures.variant ∙ c.holds.ensures) c.then.ensures.some (λ y q. search rules)
    ∙ stored-front c.in_ok-words.ensures.cases c.in_ok-numbers.ensures.cases
