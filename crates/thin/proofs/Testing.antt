-- Several crumbs tested at a time. Assumes nothing.
use Prim.Native.Nat.{ℕ, zero, suc, ◌+◌, ◌*◌, ◌≤◌, ◌<◌}
use mathlib.Core.Path.{◌≡◌, sym, ap, ◌∙◌}
use mathlib.Core.Bool.{Bool, true, ◌&&◌, and-eq-true_iff}
use native.Mathlib.Nat.{mul-suc}
use native.Mathlib.Omega.{arith}
use native.Mathlib.Decide.{dec_le}
use lib.Ieee.{Float}
use Rattle.plane.specs.declared.Point.{Point}
use Rattle.plane.specs.Square.{off_square}
use Rattle.thin.specs.Rows.{Each}

-- a square that was worked out of places that were read
pub squared : {r : Float} {p a b x y z : Point} → r ≡ off_square p a b → p ≡ x → a ≡ y → b ≡ z → r ≡ off_square x y z
squared e f g h = cc

module _ {test : ℕ → Bool} where
  pub each_none : {from to : ℕ} → to ≤ from → Each test from to
  each_none h = record { at = λ i low high. absurd (omega arith) }

  pub each-before : {from to less : ℕ} → Each test from to → less ≤ to → Each test from less
  each-before u h = record { at = λ i low high. u.at i low (omega arith) }

  each-one : {n next : ℕ} → n + 1 ≡ next → test n ≡ true → Each test n next
  each-one {n} e h = record { at = λ i low high. let q : i ≡ n = omega arith in ap test q ∙ h }

  pub each-then : {from mid to : ℕ} → Each test from mid → Each test mid to → Each test from to
  each-then {from} {mid} {to} u v = record { at = λ i low high. by i low high (dec_le mid i) }
    where
      by : (i : ℕ) → from ≤ i → i < to → Dec (mid ≤ i) → test i ≡ true
      by i low high (yes h) = v.at i h high
      by i low high (no h) = u.at i low (omega arith)

  -- n rows of as many, one behind the other
  pub each-rows : (from size n : ℕ) → ((k : ℕ) → k < n → Each test (from + size * k) (from + size * k + size))
      → Each test from (from + size * n)
  each-rows from size zero rows = each_none (omega arith)
  each-rows from size (suc n) rows =
      let e : from + size * n + size ≡ from + size * suc n = omega (arith, mul-suc size n) in
      each-then (each-rows from size n (λ k less. rows k (omega arith))) (rw e at (rows n (omega arith)))

  -- one more, joined to the test of those before
  pub each_more : {from to next : ℕ} {b c : Bool} → (b ≡ true → Each test from to) → c ≡ test to → to + 1 ≡ next → (b && c) ≡ true
      → Each test from next
  each_more {b} {c} before now e h =
      let both = (and-eq-true_iff b c).0 h in
      each-then (before both.0) (each-one e (sym now ∙ both.1))

  pub each-four : {n : ℕ} {w x y z : Bool} → w ≡ test n → x ≡ test (n + 1) → y ≡ test (n + 2) → z ≡ test (n + 3)
      → (((w && x) && y) && z) ≡ true → Each test n (n + 4)
  each-four p q r s =
      each_more (each_more (each_more (λ h. each-one (omega arith) (sym p ∙ h)) q (omega arith)) r (omega arith)) s (omega arith)
