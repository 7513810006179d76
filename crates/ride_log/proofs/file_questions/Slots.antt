-- The slots of a file and the records along its chain. Assumes nothing.
use Prim.Native.Nat.{ℕ, zero, suc, ◌≤◌, ◌<◌}
use mathlib.Core.Path.{◌≡◌, refl, sym, ap, ◌∙◌}
use mathlib.Core.Bool.{true, or-true}
use Rattle.std.specs.Prelude.{Some, None}
use mathlib.Core.List.{List, [], ◌∷◌, map}
use native.Mathlib.Nat.{le_of_suc-le-suc}
use native.Mathlib.Omega.{arith}
use borrow.Author.Tests.{eq-eqb}
use lib.Dec.{eqb}
use lib.ListN.{length, get_or}
use Rattle.std.specs.List.{slice_get}
use Rattle.calls.specs.Questions.{unless}
use Rattle.ride_log.specs.Entry.{kind_number, entry_at, chain, entries, slot}
use Rattle.ride_log.specs.Questions.{stands, question8, asks_entry, asks_record}
use Rattle.ride_log.specs.Theorems.{Accepted}
use Rattle.questions.proofs.Given.{neither, passed}

-- ---- a list at place k
module _ {A : Type 0} (g : ℕ → A) where
  elem-none : (k : ℕ) (l : List ℕ) → length l ≤ k → slice_get (map g l) k ≡ None
  elem-none k [] h = refl
  elem-none zero (x ∷ l) h = absurd (omega arith)
  elem-none (suc k) (x ∷ l) h = elem-none k l (le_of_suc-le-suc h)

  elem-here : (k d : ℕ) (l : List ℕ) → k < length l → slice_get (map g l) k ≡ Some (g (get_or l k d))
  elem-here k d [] h = absurd (omega arith)
  elem-here zero d (x ∷ l) h = refl
  elem-here (suc k) d (x ∷ l) h = elem-here k d l (le_of_suc-le-suc h)

elem-stands : (k d : ℕ) (l : List ℕ) → k < length l → stands (get_or l k d) l ≡ true
unfolding stands
elem-stands k d [] h = absurd (omega arith)
elem-stands zero d (x ∷ l) h = rw (eq-eqb x x refl)
elem-stands (suc k) d (x ∷ l) h = rw (elem-stands k d l (le_of_suc-le-suc h), or-true (eqb (get_or l k d) x))

-- ---- r is the record of slot k
pub record At (f : List ℕ) (k r : ℕ) : Type 0 where
  pub there : k < length (chain f)
  pub here : r ≡ get_or (chain f) k r

module _ {f : List ℕ} {k r : ℕ} (at : At f k r) where
  pub slot-here : slot f k ≡ Some (entry_at f r)
  unfolding slot entries
  slot-here = elem-here (entry_at f) k r (chain f) at.there ∙ ap (λ x. Some (entry_at f x)) (sym at.here)

  pub slot-asked : Accepted f → asks_record f r ≡ 0
  slot-asked a = a.each r (ap (λ x. stands x (chain f)) at.here ∙ elem-stands k r (chain f) at.there)

pub slot-none : (f : List ℕ) (k : ℕ) → length (chain f) ≤ k → slot f k ≡ None
unfolding slot entries
slot-none f k h = elem-none (entry_at f) k (chain f) h

-- ---- what no question refuses of a record
pub record-kind : (f : List ℕ) (r : ℕ) → asks_record f r ≡ 0 → question8 (kind_number f r) ≡ true
unfolding asks_record
record-kind f r e = passed (question8 (kind_number f r)) 7 (neither _ (asks_entry (entry_at f r)) e).0

pub record-entry : (f : List ℕ) (r : ℕ) → asks_record f r ≡ 0 → asks_entry (entry_at f r) ≡ 0
unfolding asks_record
record-entry f r e = (neither (unless (question8 (kind_number f r)) 8) (asks_entry (entry_at f r)) e).1
