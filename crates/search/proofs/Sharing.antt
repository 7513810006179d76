-- A share along a segment. Assumes nothing.
use mathlib.Core.Path.{◌≡◌, sym}
use mathlib.Core.Bool.{true, false}
use lib.Ieee.{Float, lt}
use Rattle.binary32.specs.Arithmetic.{◌⊖◌, ◌⊘◌}
use Rattle.binary32.specs.Limits.{plus_zero, clamp}
use Rattle.crumbs.specs.declared.Crumb.{Crumb}
use Rattle.search.specs.Along.{share_along}

module _ (a b : Crumb) (along : Float) where
  pub share-long : lt plus_zero (b.along ⊖ a.along) ≡ true → clamp ((along ⊖ a.along) ⊘ (b.along ⊖ a.along)) ≡ share_along a b along
  unfolding share_along
  share-long t = sym (simp t)

  pub share-short : lt plus_zero (b.along ⊖ a.along) ≡ false → plus_zero ≡ share_along a b along
  unfolding share_along
  share-short t = sym (simp t)
