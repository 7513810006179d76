-- What lies too far off to be joined, by its square. Assumes nothing.
use mathlib.Core.Path.{◌≡◌, refl}
use mathlib.Core.Bool.{true, false}
use lib.Ieee.{Float, binary32, of_bits, lt}
use lib.Ieee.Bits.{of_bits-fits}
use Rattle.binary32.specs.Arithmetic.{constant}
use Rattle.binary32.specs.Root.{root}
use Rattle.binary32.proofs.roots.Order.{not-less}
use Rattle.plane.specs.declared.Point.{Point}
use Rattle.plane.specs.Plane.{off_segment}
use Rattle.plane.specs.Square.{off_square}
use Rattle.plane.proofs.squares.Far.{far-off}
use Rattle.search.specs.Course.{join_m}

-- 626.0
abbrev bar : Float
bar = of_bits binary32 0x441c_8000

above : lt join_m (root binary32 bar) ≡ true
unfolding join_m constant of_bits root lt
above = refl

pub not-joined : (p a b : Point) → lt (off_square p a b) bar ≡ false → lt (off_segment p a b) join_m ≡ false
not-joined p a b h = not-less (off_segment p a b) join_m (far-off bar join_m (of_bits-fits binary32 0x441c_8000) above p a b h)
