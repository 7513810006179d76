-- A place's words, read back. Assumes nothing.
use mathlib.Core.Path.{◌≡◌, ap, ◌∙◌}
use mathlib.Core.Bool.{true, cond}
use lib.Dec.{leb, eqb}
use lib.IntN.{ℤ, pos}
use mir.Syntax.{w32}
use Rattle.std.specs.Prelude.{Option}
use Rattle.std.specs.Bool.{then_some}
use Rattle.std.specs.Int.{cast_signed, cast_unsigned}
use Rattle.plane.specs.declared.Fix.{Fix}
use Rattle.stored.specs.Fields.{most32, some_flag, fix_in}
use Rattle.stored.specs.Parts.{PlaceFits}
use Rattle.stored.proofs.fields.Same.{some-same, signed_back}

-- a place at lat and lon, where p is one
abbrev pub placed : Option Fix → ℤ → ℤ → Option Fix
placed p lat lon = then_some (eqb (some_flag p) 1) (record { lat = lat; lon = lon })

pub place-back : (p : Option Fix) → PlaceFits p → leb (cast_unsigned w32 (fix_in p).lat) most32 ≡ true
    → leb (cast_unsigned w32 (fix_in p).lon) most32 ≡ true
    → placed p (cast_signed w32 (cond (leb (cast_unsigned w32 (fix_in p).lat) most32) (cast_unsigned w32 (fix_in p).lat) 0))
    (cast_signed w32 (cond (leb (cast_unsigned w32 (fix_in p).lon) most32) (cast_unsigned w32 (fix_in p).lon) 0)) ≡ p
place-back p f a b =
    ap (λ z. placed p z (cast_signed w32 (cond (leb (cast_unsigned w32 (fix_in p).lon) most32) (cast_unsigned w32 (fix_in p).lon) 0)))
    (signed_back (fix_in p).lat f.lat a)
    ∙ ap (placed p (fix_in p).lat) (signed_back (fix_in p).lon f.lon b) ∙ some-same p (record { lat = pos 0; lon = pos 0 })
