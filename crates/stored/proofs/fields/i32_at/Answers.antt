-- `stored::fields::i32_at` meets its contract.
use Rattle.std.proofs.Common.{ap, ◌∙◌, w32, to_z}
use mir.ValLaws.{to_z-of_z}
use Rattle.stored.specs.Fields.{signed_at}
use Rattle.stored.proofs.fields.Narrowing.{narrowed}
use Rattle.stored.proofs.fields.i32_at.Goals as goal

pub returns : goal.returns
unfolding signed_at
returns c =
    to_z-of_z w32 _ (record { sfits = c.cast_signed.type_inv }) ∙ c.cast_signed.ensures
    ∙ ap (to_z w32) (c.unwrap_or.ensures ∙ narrowed 4294967295 _ _ c.try_from.ensures)
