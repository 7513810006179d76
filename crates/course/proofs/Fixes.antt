-- The laws of fixes: the first one is the origin, and of two lists there are as many as of the shorter. Assumes nothing.
use Prim.Native.Nat.{ℕ, zero, suc, ◌^◌, ◌<◌, min}
use mathlib.Core.Path.{◌≡◌, refl, sym, ap₂}
use mathlib.Core.Bool.{Bool, true, false, not, true≢false}
use mathlib.Core.List.{List, [], ◌∷◌}
use native.Mathlib.Omega.{arith}
use lib.IntN.{ℤ}
use lib.ListN.{length, get_or}
use lib.Signed.{mag}
use lib.Ieee.{Float}
use mir.Syntax.{w32}
use mir.Val.{to_z, of_z}
use mir.ValLaws.{to_z-of_z}
use Rattle.std.specs.Prelude.{Option, Some, None}
use Rattle.std.specs.Option.{is_some, unwrap_or}
use Rattle.plane.specs.declared.Fix.{Fix}
use Rattle.plane.specs.Fix.{east_per_e7, frame}
use Rattle.state.specs.declared.Frame.{Frame}
use Rattle.course.specs.Fix.{located_from, framed_from}
use Rattle.course.specs.Course.{fixes, no_origin}

-- ---- a fix that is handed on as two numbers
-- a coordinate, taken out of its bits again
abbrev pub handed : ℤ → ℤ
handed z = to_z w32 (of_z w32 z)

abbrev pub fix_at : ℤ → ℤ → Fix
fix_at lat lon = record { lat = lat; lon = lon }

pub handed-fix : (lat lon : ℤ) → mag lat < 2 ^ 31 → mag lon < 2 ^ 31 → fix_at (handed lat) (handed lon) ≡ fix_at lat lon
handed-fix lat lon a b = ap₂ fix_at (to_z-of_z w32 lat (record { sfits = a })) (to_z-of_z w32 lon (record { sfits = b }))

-- ---- the origin
pub missing : (origin : Option Fix) (b : Bool) → is_some origin ≡ not b → b ≡ no_origin origin
unfolding no_origin
missing (Some x) true e = absurd (true≢false e)
missing (Some x) false e = refl
missing None true e = refl
missing None false e = absurd (true≢false (sym e))

pub located-later : (origin : Option Fix) (x : Fix) (f : Frame) → is_some origin ≡ true → f ≡ located_from origin x f
unfolding located_from
located-later (Some y) x f e = refl
located-later None x f e = absurd (true≢false (sym e))

pub located-first : (origin : Option Fix) (x : Fix) (f : Frame) → is_some origin ≡ false
    → record { origin = Some x; east_per_e7 = east_per_e7 x.lat } ≡ located_from origin x f
unfolding located_from
located-first (Some y) x f e = absurd (true≢false e)
located-first None x f e = refl

pub framed-by : (origin : Option Fix) (factor : Float) (x : Fix) → frame (unwrap_or origin x) factor x ≡ framed_from origin factor x
unfolding framed_from
framed-by (Some y) factor x = refl
framed-by None factor x = refl

-- ---- latitudes and longitudes side by side
pub length-fixes : (lats lons : List ℤ) → length (fixes lats lons) ≡ min (length lats) (length lons)
unfolding fixes
length-fixes [] lons = omega arith
length-fixes (lat ∷ lats) [] = omega arith
length-fixes (lat ∷ lats) (lon ∷ lons) = omega (arith, length-fixes lats lons)

pub get_d-fixes : (lats lons : List ℤ) (i : ℕ) (a b : ℤ) (d : Fix) → i < length (fixes lats lons)
    → get_or (fixes lats lons) i d ≡ record { lat = get_or lats i a; lon = get_or lons i b }
unfolding fixes
get_d-fixes [] lons i a b d h = absurd (omega arith)
get_d-fixes (lat ∷ lats) [] i a b d h = absurd (omega arith)
get_d-fixes (lat ∷ lats) (lon ∷ lons) zero a b d h = refl
get_d-fixes (lat ∷ lats) (lon ∷ lons) (suc i) a b d h = get_d-fixes lats lons i a b d (omega arith)
