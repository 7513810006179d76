-- What `position` over a range says of the numbers before the one that it finds, or else of all. Assumes nothing.
use Prim.Native.Nat.{ℕ, ◌≤◌, ◌<◌}
use mathlib.Core.Path.{◌≡◌, subst}
use mathlib.Core.Bool.{Bool, true, false}
use mathlib.Core.List.{List}
use native.Mathlib.Omega.{arith}
use lib.ListN.{length, get_or}
use denote.Param.Members.{Mut}
use Rattle.std.specs.Prelude.{Option, Some, None}
use Rattle.std.specs.declared.ops.Range.{Range}
use Rattle.std.specs.Fn.{Called}
use Rattle.std.specs.Iterator.{YieldsThen}
use Rattle.std.specs.List.{range_with_len, FoldsTo, AllWithin, HoldsAt}
use Rattle.std.specs.Option.{MatchOption, unwrap_or}
use Rattle.std.proofs.iter.Yields.{nat_range_steps}
use Rattle.std.proofs.lemmas.Iterator.{YieldsList-from_range, IsFirst-from_position}
use Rattle.std.proofs.lemmas.List.FromFn.{length-range_with_len, get_or-range_with_len}

pub before-first : {F : Type 0} {g : Mut F (ℕ × Unit {0}) Bool} {s u : Range ℕ} {f : F} {n : ℕ} {r : Option ℕ} (No : ℕ → Type 0)
    → (xs : List ℕ) × (o : Option ℕ) × (j : F) × YieldsThen nat_range_steps s xs o u × FoldsTo (λ p x q. Called g p (x, tt) false q) f xs j
    × MatchOption o (r ≡ None) (λ x. (r ≡ Some (length xs)) × ((h : F) × Called g j (x, tt) true h))
    → s ≡ record { start = 0; end = n } → ((x : ℕ) (q : F) → Called g f (x, tt) false q → (q ≡ f) × No x)
    → (unwrap_or r n ≤ n) × ((k : ℕ) → k < unwrap_or r n → No k)
before-first {u = u} {f} {n} {r} No ran e miss =
    by r (IsFirst-from_position u f r (λ _. Unit {0}) No ran (YieldsList-from_range 0 n n e (omega arith)) (λ x q k. tt) miss)
  where
    each : (i : ℕ) → i ≤ n → AllWithin No (range_with_len 0 n) 0 i → (k : ℕ) → k < i → No k
    each i h all k less =
        let e : get_or (range_with_len 0 n) k 0 ≡ k = omega (arith, get_or-range_with_len 0 n k 0 (omega arith)) in
        subst No e (all k 0 (omega arith) less)

    by : (r : Option ℕ) → MatchOption r (AllWithin No (range_with_len 0 n) 0 (length (range_with_len 0 n)))
        (λ i. (i < length (range_with_len 0 n)) × HoldsAt (λ _. Unit {0}) (range_with_len 0 n) i × AllWithin No (range_with_len 0 n) 0 i)
        → (unwrap_or r n ≤ n) × ((k : ℕ) → k < unwrap_or r n → No k)
    by None all = (omega arith, each n (omega arith) (rw (length-range_with_len 0 n) at all))
    by (Some i) found =
        let h : i ≤ n = omega (arith, found.0, length-range_with_len 0 n) in
        (h, each i h found.2)
