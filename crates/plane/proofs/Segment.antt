-- The two cases of `share`. Assumes nothing.
use Rattle.std.proofs.Common.{◌≡◌, true, false, sym}
use lib.Ieee.{Float, lt}
use Rattle.binary32.specs.Arithmetic.{◌⊕◌, ◌⊖◌, ◌⊗◌, ◌⊘◌}
use Rattle.binary32.specs.Limits.{plus_zero, clamp}
use Rattle.plane.specs.declared.Point.{Point}
use Rattle.plane.specs.Plane.{share}

module _ (p a b : Point) where
  abbrev dx : Float
  dx = b.east ⊖ a.east

  abbrev dy : Float
  dy = b.north ⊖ a.north

  abbrev length : Float
  length = dx ⊗ dx ⊕ dy ⊗ dy

  pub long : lt plus_zero length ≡ true → clamp (((p.east ⊖ a.east) ⊗ dx ⊕ (p.north ⊖ a.north) ⊗ dy) ⊘ length) ≡ share p a b
  unfolding share
  long t = sym (simp t)

  pub short : lt plus_zero length ≡ false → plus_zero ≡ share p a b
  unfolding share
  short t = sym (simp t)
