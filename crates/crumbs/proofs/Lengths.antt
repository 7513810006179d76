-- What the length of a line says: whether the line has a segment, and where its last crumb lies. Assumes nothing.
use Prim.Native.Nat.{◌-◌}
use mathlib.Core.Path.{◌≡◌, refl}
use mathlib.Core.Bool.{Bool, true, false, cond}
use mathlib.Core.List.{List}
use lib.ListN.{length}
use Rattle.std.specs.Prelude.{Some, None, Float, leb}
use Rattle.crumbs.specs.declared.Crumb.{Crumb}
use Rattle.crumbs.specs.Line.{at}
use Rattle.crumbs.specs.Length.{length_m}

some-case : (b : Bool) (x : Float) {y : Float} → cond b (Some x) None ≡ Some y → (b ≡ true) × (x ≡ y)
some-case true x h = (refl, cc)
some-case false x h = absurd cc

none-case : (b : Bool) (x : Float) → cond b (Some x) None ≡ None → b ≡ false
none-case true x h = absurd cc
none-case false x h = refl

module _ (l : List Crumb) where
  pub long : {m : Float} → length_m l ≡ Some m → (leb 2 (length l) ≡ true) × ((at l (length l - 1)).along ≡ m)
  unfolding length_m
  long h = some-case _ _ h

  pub short : length_m l ≡ None → leb 2 (length l) ≡ false
  unfolding length_m
  short h = none-case _ _ h
