-- For the functions inside: what a function does to a trail, its window and its buffer, by a rule.
use Rattle.std.specs.Prelude.{ℕ, ◌≤◌, max, ◌≡◌, Bool, true, List, length, Float}
use Rattle.crumbs.specs.Crumb.{whole, capacity, behind}
use Rattle.trail.specs.declared.Trail.{Trail}
use Rattle.trail.specs.Notes.{thinned_in}
use Rattle.trail.specs.Trail.{Rule, fresh}
use Rattle.trail.specs.View.{TrailFit, track}

-- A rule is followed, from a trail t with its window w and its buffer to a trail r with its window w' and its buffer.
pub record TrailFollows (rule : ℕ → Rule) (t : Trail) (w entry : List Float) (r : Trail) (w' exit : List Float) : Type 0 where
  pub same : track r w' exit ≡ (rule (capacity (length entry)) (track t w entry)).track
  pub fit : TrailFit r (length exit)
  pub size : length exit ≡ length entry
  -- The numbers behind the crumbs held before and after are unchanged. Free are those behind the crumbs held after, where a thinning left
  -- fewer, and the numbers of the window that belong to no waiting place.
  pub beyond : behind (max t.len r.len) exit ≡ behind (max t.len r.len) entry

-- a trail, and whether it was thinned on the way
pub record Recorded : Type 0 where
  pub trail : Trail
  pub thinned : Bool

-- The same, with whether a thinning ran.
pub record Records (rule : ℕ → Rule) (t : Trail) (w entry : List Float) (r : Recorded) (w' exit : List Float) : Type 0 where
  pub follows : TrailFollows rule t w entry r.trail w' exit
  pub thinned : r.thinned ≡ thinned_in (rule (capacity (length entry)) (track t w entry)).notes

-- A rule that needs no buffer is followed, whatever the buffer.
pub record TrailChanges (rule : Rule) (t : Trail) (w : List Float) (r : Trail) (w' : List Float) : Type 0 where
  pub same : (b : List Float) → track r w' b ≡ (rule (track t w b)).track
  pub fit : (size : ℕ) → TrailFit t size → TrailFit r size

-- A trail of which nothing is recorded yet, whatever the window holds, on a buffer that passes question 1.
pub record Emptied (r : Trail) : Type 0 where
  pub same : (w b : List Float) → track r w b ≡ fresh
  pub fit : (size : ℕ) → whole size ≡ true → 8 ≤ capacity size → capacity size ≤ 4096 → TrailFit r size
