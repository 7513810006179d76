-- What holds of the rules for every file. `proofs/Theorems.antt` proves it.
use Rattle.std.specs.Prelude.{ℕ, zero, suc, ◌+◌, ◌*◌, ◌≤◌, ◌<◌, ◌≡◌, true, false, List, [], ◌∷◌, ◌++◌, pos, length, replicate, Some, None}
use Rattle.ride_log.specs.declared.Kind.TheVariants.{Samples}
use Rattle.ride_log.specs.declared.Sample.{Sample}
use Rattle.ride_log.specs.Entry.{byte_at, record_count, next_of, count_of, sample_start, has_place, has_utc, no_sample, recovered, chain}
use Rattle.ride_log.specs.Entry.{entries}
use Rattle.ride_log.specs.Questions.{below, stands, twice, asks_record, asks_file}

-- ---- what a file that no question refuses gives
-- a chain that ends: from a next of r on, the records l are reached, and then the next is 0
pub data Ends (f : List ℕ) : ℕ → List ℕ → Type 0 where
  over : Ends f zero []
  on : {r : ℕ} {l : List ℕ} → Ends f (next_of f (suc r)) l → Ends f (suc r) (suc r ∷ l)

pub record Accepted (f : List ℕ) : Type 0 where
  pub whole : length f ≡ 96 * record_count f
  pub least : 1 ≤ record_count f
  pub most : record_count f ≤ 682
  pub ends : Ends f (next_of f 0) (chain f)
  pub inside : below (record_count f) (chain f) ≡ true
  pub once : twice (chain f) ≡ false
  pub each : (r : ℕ) → stands r (chain f) ≡ true → asks_record f r ≡ 0

abbrev pub EveryAccepted : Type 0
EveryAccepted = (f : List ℕ) → asks_file f ≡ 0 → Accepted f

-- ---- what is read
-- the n bytes from `at` on are the same in two files
abbrev pub Same : List ℕ → List ℕ → ℕ → ℕ → Type 0
Same f g at n = (i : ℕ) → i < n → byte_at f (at + i) ≡ byte_at g (at + i)

-- "flags (bit 0 located, bit 1 UTC, the rest unread), 3 unread", and what they say is there
pub record SameSample (f g : List ℕ) (at : ℕ) : Type 0 where
  pub bit0 : has_place (byte_at f at) ≡ has_place (byte_at g at)
  pub bit1 : has_utc (byte_at f at) ≡ has_utc (byte_at g at)
  pub place : has_place (byte_at f at) ≡ true → Same f g (at + 4) 8
  pub utc : has_utc (byte_at f at) ≡ true → Same f g (at + 12) 8

-- next, ride, kind and count, and the samples up to count
pub record SameRecord (f g : List ℕ) (r : ℕ) : Type 0 where
  pub head : Same f g (96 * r) 10
  pub samples : (k : ℕ) → k < 4 → k < count_of f r → SameSample f g (sample_start r k)

-- the length, record 0's next and ride, and the records along the chain
pub record SameRead (f g : List ℕ) : Type 0 where
  pub size : length f ≡ length g
  pub head : Same f g 0 8
  pub records : (r : ℕ) → stands r (chain f) ≡ true → SameRecord f g r

pub record Alike (f g : List ℕ) : Type 0 where
  pub asked : asks_file f ≡ asks_file g
  pub ride : recovered f ≡ recovered g
  pub same : entries f ≡ entries g

-- nothing else is read
abbrev pub OnlyRead : Type 0
OnlyRead = (f g : List ℕ) → SameRead f g → Alike f g

-- ---- "Two records, recovered 5, one Samples entry of ride 5 with (0, 0) twice"
unfoldable pub example : List ℕ
example =
    1 ∷ 0 ∷ 0 ∷ 0 ∷ 5 ∷ 0 ∷ 0 ∷ 0 ∷ replicate 88 0
    ++ 0 ∷ 0 ∷ 0 ∷ 0 ∷ 5 ∷ 0 ∷ 0 ∷ 0 ∷ 2 ∷ 2 ∷ replicate 6 0
    ++ 1 ∷ replicate 19 0
    ++ 1 ∷ replicate 59 0

abbrev pub origin : Sample
origin = record { place = Some (record { lat = pos 0; lon = pos 0 }); utc = None }

pub record Example : Type 0 where
  pub accepted : asks_file example ≡ 0
  pub ride : recovered example ≡ 5
  pub only : entries example ≡ record { ride = 5; kind = Samples; count = 2; samples = origin ∷ origin ∷ no_sample ∷ no_sample ∷ [] } ∷ []
