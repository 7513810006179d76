-- `ride_log::i32_at` meets its contract.
use mathlib.Core.Path.{◌∙◌, ap}
use mir.Syntax.{w32}
use mir.ValLaws.{to_z-of_z}
use Rattle.ride_log.specs.Entry.{signed, i32_at}
use Rattle.ride_log.proofs.Numbers.{cast-signed}
use Rattle.ride_log.proofs.i32_at.Goals as goal

pub returns : goal.returns
unfolding i32_at
returns c =
    to_z-of_z w32 _ (record { sfits = c.cast_signed.type_inv }) ∙ c.cast_signed.ensures ∙ cast-signed _ c.u32_at.type_inv
    ∙ ap signed c.u32_at.ensures
