-- `stored::store_numbers` meets its contract.
use mathlib.Core.Path.{◌∙◌}
use Rattle.stored.proofs.Storing.{numbers-front}
use Rattle.stored.proofs.store_numbers.Goals as goal

pub returns : goal.returns
returns c =
    numbers-front c.args.h c.args.numbers.now (c.copy_from_slice.ensures.after ∙ c.head_of.ensures) c.copy_from_slice-2.ensures.after
