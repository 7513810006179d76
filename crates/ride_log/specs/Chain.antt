-- For the functions inside: what a walk along the chain has left.
use Rattle.std.specs.Prelude.{ℕ, ◌+◌, ◌≡◌, List, [], ◌∷◌, Option, Some, None}
use Rattle.ride_log.specs.declared.Chain.{Chain}
use Rattle.ride_log.specs.Entry.{next_of, records_from}

-- the records behind the one that it stands at, each by its index
unfoldable pub left : Chain → List ℕ
left c = records_from c.left c.file.now (next_of c.file.now c.index)

-- the first of them is given and counted, or there is none
abbrev pub GivesRecord : Chain → Option ℕ → Chain → Type 0
GivesRecord old None new = (left old ≡ []) × (left new ≡ []) × (new.left ≡ old.left)
GivesRecord old (Some r) new = (left old ≡ r ∷ left new) × (new.left + 1 ≡ old.left)
