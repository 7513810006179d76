-- The questions put to a chain file and to an entry. Document 01, "Questions put to a call, first no wins".
use Rattle.std.specs.Prelude.{ℕ, ◌/◌, ◌%◌, Bool, true, false, not, ◌&&◌, ◌||◌, List, [], ◌∷◌, leb, ltb, eqb, length}
use Rattle.calls.specs.Questions.{unless, ◌or_else◌}
use Rattle.calls.specs.Calls.{asks_place}
use Rattle.ride_log.specs.declared.Sample.{Sample}
use Rattle.ride_log.specs.declared.Entry.{Entry}
use Rattle.ride_log.specs.Entry.{record_count, chain, kind_number, entry_at, used}

-- ---- 6: "1 to 682 whole records?", of a file of `size` bytes
unfoldable pub question6 : ℕ → Bool
question6 size = eqb (size % 96) 0 && leb 1 (size / 96) && leb (size / 96) 682

-- ---- 7: "Every next met below the record count, none reached twice?"
-- each of a list is below n
unfoldable pub below : ℕ → List ℕ → Bool
below n [] = true
below n (r ∷ l) = ltb r n && below n l

-- r stands in a list
unfoldable pub stands : ℕ → List ℕ → Bool
stands r [] = false
stands r (s ∷ l) = eqb r s || stands r l

-- one of a list stands in it twice
unfoldable pub twice : List ℕ → Bool
twice [] = false
twice (r ∷ l) = stands r l || twice l

unfoldable pub question7 : List ℕ → Bool
question7 f = below (record_count f) (chain f) && not (twice (chain f))

-- ---- 8: "Kind 1 to 7?"
unfoldable pub question8 : ℕ → Bool
question8 kind = leb 1 kind && leb kind 7

-- ---- 2 and 3, of each place that is located
unfoldable pub asks_samples : List Sample → ℕ
asks_samples [] = 0
asks_samples (s ∷ l) = asks_place s.place or_else asks_samples l

-- ---- 5, 2 and 3, of an entry of any kind: "Entry count at most 4?", then its places
unfoldable pub asks_entry : Entry → ℕ
asks_entry e = unless (leb e.count 4) 5 or_else asks_samples (used e)

-- ---- "then its entries in order, kind, count, places"
unfoldable pub asks_record : List ℕ → ℕ → ℕ
asks_record f r = unless (question8 (kind_number f r)) 8 or_else asks_entry (entry_at f r)

unfoldable pub asks_records : List ℕ → List ℕ → ℕ
asks_records f [] = 0
asks_records f (r ∷ l) = asks_record f r or_else asks_records f l

-- ---- "The file's chain is judged whole, then its entries in order"
unfoldable pub asks_chain : List ℕ → ℕ
asks_chain f = unless (question6 (length f)) 6 or_else unless (question7 f) 7

unfoldable pub asks_file : List ℕ → ℕ
asks_file f = asks_chain f or_else asks_records f (chain f)
