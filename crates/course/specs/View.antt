-- What a line buffer holds after a course was placed in it.
use Rattle.std.specs.Prelude.{ℕ, ◌≡◌, List, length, Float}
use Rattle.crumbs.specs.declared.Crumb.{Crumb}
use Rattle.crumbs.specs.Crumb.{crumbs, behind}

-- The line l is placed in a buffer, as its first r crumbs. The numbers behind them are unchanged: all of them where l is empty.
pub record Places (l : List Crumb) (entry : List Float) (r : ℕ) (exit : List Float) : Type 0 where
  pub count : r ≡ length l
  pub held : crumbs r exit ≡ l
  pub beyond : behind r exit ≡ behind r entry
  pub size : length exit ≡ length entry
