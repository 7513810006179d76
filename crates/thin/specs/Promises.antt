-- What `thin` and the functions below it promise of a buffer, by the rules.
use Rattle.std.specs.Prelude.{ℕ, ◌<◌, ◌≡◌, true, false, List, length, Float, Result, Ok, Err}
use Rattle.refusal.specs.declared.Refusal.{Refusal}
use Rattle.refusal.specs.Refusal.{number}
use Rattle.crumbs.specs.declared.Crumb.{Crumb}
use Rattle.crumbs.specs.Crumb.{capacity, crumb_at, crumbs, behind}
use Rattle.thin.specs.declared.Thinned.{Thinned}
use Rattle.thin.specs.Crumb.{Thinning, thinning}
use Rattle.thin.specs.Questions.{question9}

-- each of the first n crumbs of a buffer stood among them before
pub record Stood (n : ℕ) (entry exit : List Float) : Type 0 where
  pub among : (i : ℕ) → i < n → (j : ℕ) × ((j < n) × (crumb_at exit i ≡ crumb_at entry j))

-- An answer of `thin` in document 01's terms: the number of the refusal, or how many crumbs are left, the tolerance of the last pass, and
-- the passes made.
pub data ThinAnswer : Type 0 where
  refused : ℕ → ThinAnswer
  left : ℕ → Float → ℕ → ThinAnswer

abbrev pub says : Result Thinned Refusal → ThinAnswer
says (Ok w) = left w.len w.tolerance w.passes
says (Err q) = refused (number q)

-- the rule's thin_answer for a buffer of `size` numbers that holds the crumbs l
unfoldable pub thin_answer : ℕ → Float → List Crumb → ThinAnswer
thin_answer size t l =
    elim (question9 size (length l) t) [
      | true ↦ let w = thinning (capacity size) t l in left (length w.left) w.tolerance w.passes
      | false ↦ refused 9
    ]

-- the thinning of the first n crumbs of a buffer
abbrev pub thinned : ℕ → Float → List Float → Thinning
thinned n t b = thinning (capacity (length b)) t (crumbs n b)

-- `thin`, given the first n crumbs of a buffer and the tolerance t
pub record ThinDone (n : ℕ) (t : Float) (entry exit : List Float) (r : Result Thinned Refusal) : Type 0 where
  -- count, tolerance and passes are the rule's, or the refusal is
  pub answered : says r ≡ thin_answer (length entry) t (crumbs n entry)
  -- a refusal changes nothing
  pub refused : question9 (length entry) n t ≡ false → exit ≡ entry
  -- otherwise the held crumbs are those that the rule leaves, to the bit,
  pub held : question9 (length entry) n t ≡ true → crumbs (length (thinned n t entry).left) exit ≡ (thinned n t entry).left
  -- the numbers behind the crumbs that came in are unchanged,
  pub beyond : behind n exit ≡ behind n entry
  -- and the crumbs between those that are left and those that came in are free: each stood among those that came in
  pub free : Stood n entry exit
  pub size : length exit ≡ length entry
