-- What a call that passes question 9 has. Assumes nothing.
use Prim.Native.Nat.{ℕ, ◌≤◌}
use mathlib.Core.Path.{◌≡◌}
use mathlib.Core.Bool.{Bool, true, false, and-eq-true_iff}
use native.Mathlib.Omega.{arith}
use borrow.Author.Tests.{leb-true}
use lib.Ieee.{Float, le}
use Rattle.binary32.specs.Limits.{plus_zero}
use Rattle.crumbs.specs.Crumb.{whole, capacity}
use Rattle.thin.specs.Questions.{question9}

pub true-false : ◌≡◌ {A = Bool} true false → ⊥
true-false e = let z : ◌≡◌ {A = ℕ} 0 1 = cc in omega arith

pub record Asked (size n : ℕ) (t : Float) : Type 0 where
  pub whole_long : whole size ≡ true
  pub least : 3 ≤ capacity size
  pub most : capacity size ≤ 4096
  pub fits : n ≤ capacity size
  pub tolerance : le plus_zero t ≡ true

pub asked : (size n : ℕ) (t : Float) → question9 size n t ≡ true → Asked size n t
unfolding question9
asked size n t h =
    let e = (and-eq-true_iff _ _).0 h in
    let d = (and-eq-true_iff _ _).0 e.0 in
    let c = (and-eq-true_iff _ _).0 d.0 in
    let b = (and-eq-true_iff _ _).0 c.0 in
    record {
      whole_long = b.0;
      least = leb-true _ _ b.1;
      most = leb-true _ _ c.1;
      fits = leb-true _ _ d.1;
      tolerance = e.1;
    }
