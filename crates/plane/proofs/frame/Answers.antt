-- `plane::frame` meets its contract: the differences are small enough to be rounded as they stand.
use Rattle.std.proofs.Common.{◌≡◌, ◌-◌, ◌^◌, ◌≤◌, ℤ, ◌-ℤ◌, nat_abs, ap, ◌∙◌, w32, w64, SFits, to_z, of_z}
use lib.Ieee.{Float, binary32, of_bits, of_int}
use mir.ValLaws.{to_z-of_z}
use Rattle.binary32.specs.Arithmetic.{constant}
use Rattle.binary32.specs.Inner.{as_f32}
use Rattle.plane.specs.Fix.{m_per_e7, wrapped, frame}
use Rattle.plane.proofs.Signed.{minus-size, wrapped-size, small-fits, as_f32-small}
use Rattle.plane.proofs.frame.Goals as goal

-- an argument of a signed type is handed on by its bits
at32 : (z : ℤ) → SFits w32 z → to_z w32 (of_z w32 z) ≡ z
at32 = to_z-of_z w32

at64 : (z : ℤ) → nat_abs z ≤ 2 ^ 32 - 1 → to_z w64 (of_z w64 z) ≡ z
at64 z h = to_z-of_z w64 z (small-fits z h)

rounded : (d z : ℤ) (x : Float) → d ≡ z → nat_abs z ≤ 2 ^ 32 - 1 → x ≡ as_f32 (to_z w64 (of_z w64 d)) → x ≡ of_int binary32 z
rounded d z x e h r = r ∙ ap (λ (y : ℤ). as_f32 (to_z w64 (of_z w64 y))) e ∙ ap as_f32 (at64 z h) ∙ as_f32-small z h

passed : (d a b : ℤ) → SFits w32 a → SFits w32 b → d ≡ to_z w32 (of_z w32 a) -ℤ to_z w32 (of_z w32 b) → d ≡ a -ℤ b
passed d a b A B e = e ∙ ap (λ (y : ℤ). y -ℤ to_z w32 (of_z w32 b)) (at32 a A) ∙ ap (λ (y : ℤ). a -ℤ y) (at32 b B)

pub returns : goal.returns
unfolding frame m_per_e7 constant of_bits
returns c =
    let s = c.args.fix in
    let o = c.args.origin in
    let from = c.well_formed.0.1.1 in
    let at = c.well_formed.1.1.0.1.1 in
    let lat0 : SFits w32 o.lat = record { sfits = from.0.1 } in
    let lon0 : SFits w32 o.lon = record { sfits = from.1.0.1 } in
    let lat : SFits w32 s.lat = record { sfits = at.0.1 } in
    let lon : SFits w32 s.lon = record { sfits = at.1.0.1 } in
    let d = s.lon -ℤ o.lon in
    let h = minus-size s.lon o.lon lon lon0 in
    let e = passed c.difference.result s.lon o.lon lon lon0 c.difference.ensures in
    let east = rounded c.wrapped.result (wrapped d) c.as_f32.result
    (c.wrapped.ensures ∙ ap (λ (y : ℤ). wrapped (to_z w64 (of_z w64 y))) e ∙ ap wrapped (at64 d h)) (wrapped-size d h)
    c.as_f32.ensures in
    let north = rounded c.difference-2.result (s.lat -ℤ o.lat) c.as_f32-2.result
    (passed c.difference-2.result s.lat o.lat lat lat0 c.difference-2.ensures)
    (minus-size s.lat o.lat lat lat0) c.as_f32-2.ensures in
    simp (east, north)
