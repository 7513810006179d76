-- Distances and bearings in the plane. Document 01 names the forms ("distance, projection, cosine and angle as f32 formulas"); the formulas
-- are homing.rs's.
use Rattle.std.specs.Prelude.{ℕ, ◌*◌, ◌%◌, ◌^◌, cond, Float}
use Rattle.std.specs.Float.{binary32}
use Rattle.std.specs.Float.Ieee.{lt}
use Rattle.binary32.specs.Arithmetic.{◌⊕◌, ◌⊖◌, ◌⊗◌, ◌⊘◌, constant}
use Rattle.binary32.specs.Root.{root}
use Rattle.binary32.specs.Casts.{as_u32}
use Rattle.binary32.specs.Limits.{plus_zero, one, clamp}
use Rattle.trig.specs.Fix.{angle}
use Rattle.plane.specs.declared.Point.{Point}
use Rattle.plane.specs.declared.Projection.{Projection}

unfoldable pub distance : Point → Point → Float
distance a b =
    let east = b.east ⊖ a.east in
    let north = b.north ⊖ a.north in
    root binary32 (east ⊗ east ⊕ north ⊗ north)

-- how far along the segment from a to b the point nearest p lies, 0 to 1; 0 where the segment has no length
unfoldable pub share : Point → Point → Point → Float
share p a b =
    let dx = b.east ⊖ a.east in
    let dy = b.north ⊖ a.north in
    let length = dx ⊗ dx ⊕ dy ⊗ dy in
    cond (lt plus_zero length) (clamp (((p.east ⊖ a.east) ⊗ dx ⊕ (p.north ⊖ a.north) ⊗ dy) ⊘ length)) plus_zero

-- the number at the share t of the way from a to b
unfoldable pub between : Float → Float → Float → Float
between t a b = a ⊕ t ⊗ (b ⊖ a)

unfoldable pub at_share : Point → Point → Float → Projection
at_share a b t =
    record { point = record { east = between t a.east b.east; north = between t a.north b.north }; t = t }

-- the point of the segment from a to b nearest p
unfoldable pub project : Point → Point → Point → Projection
project p a b = at_share a b (share p a b)

unfoldable pub off_segment : Point → Point → Point → Float
off_segment p a b = distance p (project p a b).point

-- 2π
unfoldable pub tau : Float
tau = constant (2 * 314159265358979323846264338327950288) (10 ^ 35)

-- "Bearings and headings are 4096ths of a turn."
abbrev pub turn : ℕ
turn = 4096

-- a part of a turn to the left as one to the right
unfoldable pub onward : Float → Float
onward turns = cond (lt turns plus_zero) (turns ⊕ one) turns

-- the bearing from one point to another, clockwise from north
unfoldable pub bearing : Point → Point → ℕ
bearing from to =
    let radians = angle (to.east ⊖ from.east) (to.north ⊖ from.north) in
    as_u32 (onward (radians ⊘ tau) ⊗ constant turn 1) % turn

-- whole metres for the screen: the value plus a half, cut
unfoldable pub metres : Float → ℕ
metres value = as_u32 (value ⊕ constant 1 2)
