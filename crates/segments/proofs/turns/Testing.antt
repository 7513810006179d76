-- One test two ways. Assumes nothing.
use Prim.Native.Nat.{ℕ, ◌≤◌, ◌<◌}
use mathlib.Core.Path.{◌≡◌}
use mathlib.Core.Bool.{not}
use native.Mathlib.Omega.{arith}
use native.Mathlib.Decide.{dec_lt}
use borrow.Author.Tests.{lt-ltb, le-ltb, lt-leb, le-leb}
use lib.Dec.{leb, ltb}
use Rattle.std.proofs.Common.{Bool, Option, Some, None, MatchOption, IsFalse}
use Rattle.crumbs.specs.declared.Crumb.{Crumb}
use Rattle.segments.specs.Turn.{against}

-- one test two ways
pub ltb-not : (a b : ℕ) → ltb a b ≡ not (leb b a)
ltb-not a b = at-case (dec_lt a b)
  where
    at-case : Dec (a < b) → ltb a b ≡ not (leb b a)
    at-case (yes h) = simp (lt-ltb a b h, lt-leb b a h)
    at-case (no h) = let k : b ≤ a = omega arith in simp (le-ltb a b k, le-leb b a k)

-- what is asked of a heading that may be missing
pub against-is : (x : Option ℕ) (a b : Crumb) {r : Bool} {P : ℕ → Type 0} → MatchOption x (IsFalse r) P
    → ((known : ℕ) → P known → r ≡ against (Some known) a b) → r ≡ against x a b
unfolding against
against-is None a b e f = e
against-is (Some known) a b e f = f known e
