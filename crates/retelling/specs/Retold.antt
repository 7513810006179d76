-- What `retell` prints of a chain file. Document 01, "Entry": "reads it on standard input, checks all, rebuilds the whole chain with 512
-- crumbs without a settle".
use Rattle.std.specs.Prelude.{ℕ, ◌≤◌, ◌≡◌, true, false, List, eqb, length, take, drop, None}
use Rattle.crumbs.specs.declared.Crumb.{Crumb}
use Rattle.calls.specs.Line as guide
use Rattle.ride_log.specs.Entry.{recovered, slot}
use Rattle.ride_log.specs.Questions.{asks_file}
use Rattle.rebuild.specs.Made.{Made, effect}
use Rattle.rebuild.specs.Rebuild.{new_rebuild, step, is_decided, caught_up}
use Rattle.retelling.specs.Text.{rebuilt_text, refused_text}

-- "with 512 crumbs"
abbrev pub room : ℕ
room = 512

-- "1 to 682 whole records": so many slots are looked at, and no file that is taken has more (`Whole` below)
abbrev pub slots : ℕ
slots = 682

-- the rebuild of the whole chain, and the calls that it makes of a guide
unfoldable pub rebuilt : List ℕ → Made
rebuilt file = (step slots slots (slot file) (new_rebuild (recovered file))).made

-- the crumbs that a new guide holds after those calls
unfoldable pub held_after : List ℕ → List Crumb
held_after file = (effect (rebuilt file) room guide.new).state.track.crumbs

-- "On refusal it prints only `refused N`."
unfoldable pub retold : List ℕ → List ℕ
retold file =
    elim (eqb (asks_file file) 0) [
      | true ↦ rebuilt_text (held_after file) (rebuilt file).rebuild.clock_ms (is_decided (rebuilt file).rebuild.stage)
      | false ↦ refused_text (asks_file file)
    ]

-- a text of so many bytes has room for all that is printed
abbrev pub text_most : ℕ
text_most = 16384

-- ---- what `retell` promises
-- `retell` writes to the front of a lent text, and r is how many bytes it wrote.
pub record Retells (file entry exit : List ℕ) (r : ℕ) : Type 0 where
  pub whole : text_most ≤ length entry → take r exit ≡ retold file
  -- a shorter text holds as much of it as there is room for
  pub text : take r exit ≡ take (length entry) (retold file)
  pub inside : r ≤ length entry
  pub size : length exit ≡ length entry
  -- what stands behind is unchanged
  pub behind : drop r exit ≡ drop r entry

-- ---- what holds of the rules for every file; `proofs/Theorems.antt` proves it
-- "the whole chain": every slot that is looked at is below 682, and no slot from there on has a record
pub record Whole (file : List ℕ) : Type 0 where
  pub looked : caught_up slots (rebuilt file).rebuild ≡ true
  pub beyond : (k : ℕ) → slots ≤ k → slot file k ≡ None

abbrev pub EveryWhole : Type 0
EveryWhole = (file : List ℕ) → asks_file file ≡ 0 → Whole file

-- one byte more than 682 records have
abbrev pub read_most : ℕ
read_most = 65473

-- of a longer file the rest need not be kept: it is refused by the same question
abbrev pub EveryCut : Type 0
EveryCut = (file : List ℕ) → retold (take read_most file) ≡ retold file
