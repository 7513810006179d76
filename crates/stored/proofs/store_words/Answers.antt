-- `stored::store_words` meets its contract.
use mathlib.Core.Path.{◌∙◌}
use Rattle.stored.proofs.Storing.{words-front}
use Rattle.stored.proofs.Placing.{words-fit}
use Rattle.stored.proofs.store_words.Goals as goal

pub returns : goal.returns
returns c =
    let front = c.front_words.ensures in
    let back = c.back_words.ensures in (
      words-front c.args.h c.args.words.now (c.copy_from_slice.ensures.after ∙ front.0) (c.copy_from_slice-2.ensures.after ∙ back.0),
      words-fit c.args.h front.1 back.1 front.2 front.3 front.4,
    )
