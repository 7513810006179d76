-- For the functions inside: how the functions that read and write a buffer leave it.
use Rattle.std.specs.Prelude.{ℕ, ◌+◌, ◌*◌, ◌≤◌, ◌<◌, ◌≡◌, List, [], length, set, Float}
use Rattle.crumbs.specs.Crumb.{crumbs, behind, capacity, in_front, stride}
use Rattle.crumbs.specs.Along.{realong}
use Rattle.crumbs.specs.declared.Crumb.{Crumb}

-- Along is recomputed over the first n crumbs of a buffer.
pub record Realongs (n : ℕ) (entry exit : List Float) : Type 0 where
  pub held : crumbs n exit ≡ realong (crumbs n entry)
  pub beyond : behind n exit ≡ behind n entry
  pub size : length exit ≡ length entry

-- the buffer with the crumb c at place i
unfoldable pub put_at : List Float → ℕ → Crumb → List Float
put_at b i c = set (set (set b (stride * i) c.east) (stride * i + 1) c.north) (stride * i + 2) c.along

-- "The held crumbs come back as the front part of the lent buffer." Where n crumbs are more than the buffer b has room for, the part r is
-- empty.
pub record Front (n : ℕ) (b r : List Float) : Type 0 where
  pub numbers : n ≤ capacity (length b) → r ≡ in_front n b
  pub held : n ≤ capacity (length b) → crumbs (capacity (length r)) r ≡ crumbs n b
  pub empty : capacity (length b) < n → r ≡ []
