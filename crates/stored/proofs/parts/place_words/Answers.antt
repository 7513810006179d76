-- `stored::parts::place_words` meets its contract.
use Rattle.std.proofs.Common.{SFits, w32, subst}
use mir.ValLaws.{to_z-of_z}
use Rattle.plane.specs.declared.Fix.{Fix}
use Rattle.stored.specs.Fields.{fix_in}
use Rattle.stored.proofs.fields.Fitting.{none_left, and_in, some-most, bits-most}
use Rattle.stored.proofs.parts.place_words.Goals as goal

pub returns : goal.returns
returns c =
    let is = c.unwrap_or-fix.ensures in
    let lat : SFits w32 (fix_in c.args.p).lat =
    subst (λ (x : Fix). SFits w32 x.lat) is (record { sfits = c.unwrap_or-fix.type_inv.1.1.0.1 }) in
    let lon : SFits w32 (fix_in c.args.p).lon =
    subst (λ (x : Fix). SFits w32 x.lon) is (record { sfits = c.unwrap_or-fix.type_inv.1.1.1.0.1 }) in (
      simp (
        c.from.ensures,
        c.is_some.ensures,
        c.from-2.ensures,
        c.cast_unsigned.ensures,
        c.from-3.ensures,
        c.cast_unsigned-2.ensures,
        is,
        to_z-of_z w32 _ lat,
        to_z-of_z w32 _ lon,
      ),
      (and_in (some-most c.args.p) (and_in (bits-most _ lat) (and_in (bits-most _ lon) none_left))).ok,
      record { lat = lat; lon = lon },
    )
