-- For the functions inside: what one pass over a buffer does.
use Rattle.std.specs.Prelude.{ℕ, suc, ◌+◌, ◌≤◌, ◌<◌, ◌≡◌, Bool, true, false, List, length, drop, Float}
use Rattle.crumbs.specs.declared.Crumb.{Crumb}
use Rattle.crumbs.specs.Crumb.{crumb_at, crumbs, behind}
use Rattle.thin.specs.Crumb.{reach, two_on, pass_by}
use Rattle.thin.specs.Promises.{Stood}

-- how far past a crumb a pass goes: one that halves, or one that measures at the tolerance t
unfoldable pub step_by : Bool → Float → Crumb → List Crumb → ℕ
step_by true t = two_on
step_by false t = reach t

-- A pass over the first n crumbs of a buffer goes on by one from each crumb before crumb r, behind which there is another.
pub record OneByOne (halve : Bool) (t : Float) (n : ℕ) (buf : List Float) (r : ℕ) : Type 0 where
  pub within : r + 2 ≤ n
  pub each : (i : ℕ) → i < r → step_by halve t (crumb_at buf i) (drop (suc i) (crumbs n buf)) ≡ 1

-- A pass over the first n crumbs of a buffer leaves r crumbs in front, those of the rule, and changes no number behind the n crumbs.
pub record Passed (halve : Bool) (t : Float) (n : ℕ) (entry exit : List Float) (r : ℕ) : Type 0 where
  pub kept : crumbs r exit ≡ pass_by (step_by halve t) 0 (crumbs n entry)
  pub beyond : behind n exit ≡ behind n entry
  pub stood : Stood n entry exit
  pub size : length exit ≡ length entry
