-- `stored::fields::place_at` meets its contract.
use Rattle.std.proofs.Common.{◌≡◌, ◌+◌, w32, to_z, of_z, ◌∙◌}
use mir.ValLaws.{to_z-of_z}
use Rattle.stored.specs.Fields.{place_read, signed_at}
use Rattle.stored.proofs.fields.place_at.Goals as goal

pub returns : goal.returns
unfolding place_read
returns c =
    let w = c.args.words.now in
    let lat : to_z w32 (of_z w32 c.i32_at.result) ≡ signed_at w (c.args.i + 1) =
    to_z-of_z w32 _ (record { sfits = c.i32_at.type_inv }) ∙ c.i32_at.ensures in
    let lon : to_z w32 (of_z w32 c.i32_at-2.result) ≡ signed_at w (c.args.i + 2) =
    to_z-of_z w32 _ (record { sfits = c.i32_at-2.type_inv }) ∙ c.i32_at-2.ensures in
    simp (c.then_some.ensures, c.flag_at.ensures, lat, lon)
