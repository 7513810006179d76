-- For the functions inside: squares of distances, what stands under the roots of `distance` and `off_segment`, by which those go that take
-- no root.
use Rattle.std.specs.Prelude.{Float}
use Rattle.binary32.specs.Arithmetic.{◌⊕◌, ◌⊖◌, ◌⊗◌}
use Rattle.plane.specs.declared.Point.{Point}
use Rattle.plane.specs.Plane.{project}

unfoldable pub square : Point → Point → Float
square a b =
    let east = b.east ⊖ a.east in
    let north = b.north ⊖ a.north in
    east ⊗ east ⊕ north ⊗ north

unfoldable pub off_square : Point → Point → Point → Float
off_square p a b = square p (project p a b).point
