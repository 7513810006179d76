-- What the tests of several crumbs at a time say of a reach. Assumes nothing.
use Prim.Native.Nat.{ℕ, ◌+◌, ◌-◌, ◌≤◌, ◌<◌}
use mathlib.Core.Path.{◌≡◌, refl, sym, subst}
use mathlib.Core.Bool.{Bool, true, false}
use mathlib.Core.List.{List}
use native.Mathlib.Omega.{arith}
use lib.Ieee.{Float}
use Rattle.plane.specs.declared.Point.{Point}
use Rattle.crumbs.specs.Crumb.{crumb_at, point}
use Rattle.thin.specs.Bounds.{Under, Over}
use Rattle.thin.specs.Crumb.{reach}
use Rattle.thin.specs.Inner.{step_by, OneByOne}
use Rattle.thin.specs.Rows.{near, far, Each}
use Rattle.thin.proofs.Bounding.{surely-in, surely-out, stays, leaves}
use Rattle.thin.proofs.Reaching.{Ends, Between, after, ends-start, ends-stray, between_start, between-over}

module _ {t : Float} {buf : List Float} {len anchor end : ℕ} (v : Ends t buf len anchor end) (within : end < len)
    (close : end - anchor ≤ 256) where
  -- crumbs that are near stay: those behind them decide
  pub between-near : {a b : Point} {lo : Float} {r : ℕ} → Under t lo → a ≡ point (crumb_at buf anchor) → b ≡ point (crumb_at buf end)
      → (anchor + 1 ≤ r) × (r ≤ end) × Each (near buf a b lo) (anchor + 1) r → Between t buf len anchor end r
  between-near {a} {b} {r = r} u f g w =
      let e : anchor + 1 + (r - (anchor + 1)) ≡ r = omega (arith, w.0) in
      subst (Between t buf len anchor end) e
      (between-over v within close (between_start v within close) (r - (anchor + 1)) (omega (arith, w.0, w.1))
      (λ i low high. stays t (surely-in (point (crumb_at buf i)) a b refl t u (w.2.at i low (omega (arith, w.0)))) refl f g refl))

-- where the next crumb is far off the chord over it, the reach is one
module _ {t hi : Float} (o : Over t hi) where
  reaches-one : (buf : List Float) (len i : ℕ) → i + 2 < len → far buf hi i ≡ true → reach t (crumb_at buf i) (after buf len i) ≡ 1
  reaches-one buf len i h e =
      let v : Ends t buf len i (i + 2) = ends-start (omega arith) in
      let u : Between t buf len i (i + 2) (i + 1) = between_start v h (omega arith) in
      let out = surely-out (point (crumb_at buf (i + 1))) (point (crumb_at buf i)) (point (crumb_at buf (i + 2))) refl t o e in
      let r : i + 2 - 1 ≡ i + reach t (crumb_at buf i) (after buf len i) =
      ends-stray v h (omega arith) u (omega arith) refl (leaves t out refl refl refl refl) in
      omega (arith, r)

  pub one_by_one : {halve : Bool} {buf : List Float} {len r : ℕ} → halve ≡ false → (r + 2 ≤ len) × Each (far buf hi) 0 r
      → OneByOne halve t len buf r
  unfolding step_by
  one_by_one {buf = buf} {len} {r} not w =
      subst (λ (b : Bool). OneByOne b t len buf r) (sym not)
      (record { within = w.0; each = λ i h. reaches-one _ _ i (omega (arith, w.0)) (w.1.at i (omega arith) h) })
