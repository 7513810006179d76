-- The records that a walk over n slots from slot `from` on meets. Assumes nothing.
use Prim.Native.Nat.{ℕ, ◌+◌, ◌-◌, ◌≤◌, ◌<◌, min}
use mathlib.Core.Path.{◌≡◌, ap, subst, ◌∙◌}
use mathlib.Core.List.{List}
use native.Mathlib.Omega.{arith}
use lib.ListN.{length, get_or, take, drop}
use Rattle.std.proofs.lemmas.List.{length-take, length-drop, get_or-take, get_or-drop}
use Rattle.std.specs.Iterator.Adapters.{take_source, take_count, take_steps, skip_source, skip_count, skip_steps}
use Rattle.std.specs.declared.iter.Skip.{Skip}
use Rattle.std.specs.declared.iter.Take.{Take}
use Rattle.std.proofs.lemmas.Iterator.{YieldsList, YieldsList-from_take}
use Rattle.std.proofs.lemmas.Iterator.Adapters.{YieldsList-from_skip}
use Rattle.std.proofs.lemmas.Iterator.Consumers.{YieldsList-from_shown, YieldsList-at}
use Rattle.ride_log.specs.declared.Chain.{Chain}
use Rattle.ride_log.specs.Chain.{left, GivesRecord}
use Rattle.ride_log.specs.Entry.{chain}
use Rattle.ride_log.proofs.file_questions.Slots.{At}

abbrev pub met : List ℕ → ℕ → ℕ → List ℕ
met f from n = take n (drop from (chain f))

of-chain : (f : List ℕ) {w : Chain} → left w ≡ chain f → YieldsList GivesRecord (λ x. x) w (chain f)
of-chain f {w} all =
    subst (λ (l : List ℕ). YieldsList GivesRecord (λ x. x) w l) all
    (YieldsList-from_shown GivesRecord (λ x. x) left (λ s t e. ap length e.0) (λ s x t e. e.0) w)

-- the chain without its first records, and no more than n of the rest, meets them
abbrev pub Meets : List ℕ → ℕ → ℕ → Take (Skip Chain) → Type 0
Meets f from n i = YieldsList (take_steps (skip_steps GivesRecord)) (λ x. x) i (met f from n)

pub meets : (f : List ℕ) {from n : ℕ} {w : Chain} {p : Skip Chain} {t i : Take (Skip Chain)} → left w ≡ chain f → skip_source p ≡ w
    → skip_count p ≡ from → take_source t ≡ p → take_count t ≡ n → i ≡ t → Meets f from n i
meets f {from} {n} all source count whole most same =
    YieldsList-at same
    (YieldsList-from_take n
    (YieldsList-at whole (YieldsList-from_skip from (YieldsList-at source (of-chain f all)) count))
    most)

module _ (f : List ℕ) (from n : ℕ) where
  how-many : length (met f from n) ≡ min n (length (chain f) - from)
  how-many = length-take n (drop from (chain f)) ∙ ap (min n) (length-drop from (chain f))

  -- the j-th of them
  pub met-at : (j x : ℕ) → j < length (met f from n) → x ≡ get_or (met f from n) j x → At f (from + j) x
  met-at j x h e =
      let less : j < n = omega (arith, h, how-many) in
      record {
        there = omega (arith, h, how-many);
        here = e ∙ get_or-take n (drop from (chain f)) j x less ∙ get_or-drop from (chain f) j x;
      }

  pub met-below : (j : ℕ) → j < length (met f from n) → j < n
  met-below j h = omega (arith, h, how-many)

  -- where fewer are met, the chain has ended
  pub met-all : (j : ℕ) → j ≡ length (met f from n) → j < n → length (chain f) ≤ from + j
  met-all j e h = omega (arith, e, how-many)

  pub met-upto : (j : ℕ) → j ≡ length (met f from n) → j ≤ n
  met-upto j e = omega (arith, e, how-many)
