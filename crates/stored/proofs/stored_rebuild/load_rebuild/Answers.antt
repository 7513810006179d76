-- `stored::stored_rebuild::load_rebuild` meets its contract.
use borrow.Author.Rules.{rules}
use mathlib.Core.Path.{◌∙◌}
use Rattle.stored.proofs.fields.Same.{then-made}
use Rattle.stored.proofs.stored_rebuild.Holding.{few-rebuild, stored-front}
use Rattle.stored.proofs.stored_rebuild.load_rebuild.Goals as goal

pub returns-in_err-words : goal.returns-in_err-words
returns-in_err-words c = c.from_residual.ensures ∙ few-rebuild _ c.in_err-words.ensures.cases

pub returns : goal.returns
returns c =
    then-made _ _ _ (c.then.ensures.variant ∙ c.holds_rebuild.ensures) c.then.ensures.some (λ y q. search rules)
    ∙ stored-front c.in_ok-words.ensures.cases
