-- What holds of the rules for every line and every tolerance. `proofs/Theorems.antt` proves it.
use Rattle.std.specs.Prelude.{ℕ, zero, suc, ◌+◌, ◌-◌, ◌/◌, ◌≤◌, ◌<◌, ◌≡◌, true, List, length, Float}
use Rattle.crumbs.specs.declared.Crumb.{Crumb}
use Rattle.crumbs.specs.Crumb.{capacity}
use Rattle.crumbs.specs.Choice.{Choice, first, last}
use Rattle.thin.specs.Crumb.{measuring_pass, halving_pass, doubled, target, Thinning, thinning}
use Rattle.thin.specs.Questions.{question9}

-- the tolerance t doubled n times
unfoldable pub doubled_by : ℕ → Float → Float
doubled_by zero t = t
doubled_by (suc n) t = doubled (doubled_by n t)

-- the line l after n measuring passes, the first at the tolerance t, "tolerance doubled after each"
unfoldable pub measured : ℕ → Float → List Crumb → List Crumb
measured zero t l = l
measured (suc n) t l = measuring_pass (doubled_by n t) (measured n t l)

-- of the thinning w of a line l, at the tolerance t, in room for `capacity` crumbs
pub record Thins (capacity : ℕ) (t : Float) (l : List Crumb) (w : Thinning) : Type 0 where
  -- 1 to 18 passes
  pub some-pass : 1 ≤ w.passes
  pub few-passes : w.passes ≤ 18
  -- "`thin`'s pass count is the number of passes made": what is left is the line after so many of them. "Passes 1 to 17 measure, pass 18
  -- halves."
  pub measures : w.passes ≤ 17 → w.left ≡ measured w.passes t l
  pub halves : w.passes ≡ 18 → w.left ≡ halving_pass (measured 17 t l)
  -- "passes until at most T remain": every pass before the last left more
  pub above : (n : ℕ) → 1 ≤ n → n < w.passes → target capacity < length (measured n t l)
  -- "tolerance doubled after each failing pass": each but the last failed
  pub last-tolerance : w.tolerance ≡ doubled_by (w.passes - 1) t
  -- at most T are left
  pub few-left : length w.left ≤ target capacity
  -- what is left is a choice from what was there,
  pub choice : Choice w.left l
  -- beginning with the first
  pub begins : first w.left ≡ first l
  -- and, from two points on, ending with the last, which is another than the first
  pub ends : 2 ≤ length l → last w.left ≡ last l
  pub both : 2 ≤ length l → 2 ≤ length w.left
  -- "Two points or fewer are left."
  pub few : length l ≤ 2 → w.left ≡ l

-- every thinning that passes question 9
abbrev pub EveryThinning : Type 0
EveryThinning =
    (size : ℕ) (t : Float) (l : List Crumb) → question9 size (length l) t ≡ true → Thins (capacity size) t l (thinning (capacity size) t l)

-- "A halving pass turns L into L/2 (rounded down) + 1, L ≥ 3."
abbrev pub EveryHalving : Type 0
EveryHalving = (l : List Crumb) → 3 ≤ length l → length (halving_pass l) ≡ length l / 2 + 1
