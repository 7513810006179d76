-- For the functions inside: what a function that writes to a lent text promises.
use Rattle.std.specs.Prelude.{ℕ, ◌≤◌, ◌≡◌, List, ◌++◌, length, take, drop}
use Rattle.retelling.specs.declared.lines.Writer.{Writer}
use Rattle.retelling.specs.Retold.{text_most}

-- The bytes `l` are written from place `at` of a text on, and r is the place behind them: what stood before is followed by as many of them
-- as there is room for. What stands behind is unchanged.
pub record Writes (l entry : List ℕ) (at : ℕ) (exit : List ℕ) (r : ℕ) : Type 0 where
  pub text : take r exit ≡ take (length entry) (take at entry ++ l)
  pub size : length exit ≡ length entry
  pub on : at ≤ r
  pub inside : at ≤ length entry → r ≤ length entry
  pub behind : drop r exit ≡ drop r entry

-- A writer has written the bytes `l`, to the text that it held.
pub record Puts (l : List ℕ) (entry exit : Writer) : Type 0 where
  pub writes : Writes l entry.text.now entry.at exit.text.now exit.at
  pub same : exit.text.ghost_name ≡ entry.text.ghost_name

-- and `text_most` have room for them
pub record PutsWhole (l : List ℕ) (entry exit : Writer) : Type 0 where
  pub puts : Puts l entry exit
  pub short : length l ≤ text_most
