-- The chain file. Document 01, "Entry". A file is the list of its bytes, each 0 to 255; what lies behind the last one counts as 0.
use Rattle.std.specs.Prelude.{ℕ, zero, suc, ◌+◌, ◌-◌, ◌*◌, ◌/◌, ◌%◌, ◌^◌, Bool, true, false, cond, List, [], ◌∷◌, map, ltb, eqb, ℤ, pos}
use Rattle.std.specs.Prelude.{neg_ℤ, length, get_or, take}
use Rattle.std.specs.Prelude.{Option, Some, None}
use Rattle.plane.specs.declared.Fix.{Fix}
use Rattle.std.specs.List.{slice_get}
use Rattle.ride_log.specs.declared.Kind.{Kind}
use Rattle.ride_log.specs.declared.Kind.TheVariants.{Start, Samples, Pause, Resume, Finish, Recovered, Full}
use Rattle.ride_log.specs.declared.Sample.{Sample}
use Rattle.ride_log.specs.declared.Entry.{Entry}

-- ---- numbers: "little-endian"
unfoldable pub byte_at : List ℕ → ℕ → ℕ
byte_at f at = get_or f at 0

unfoldable pub u32_at : List ℕ → ℕ → ℕ
u32_at f at = byte_at f at + 2 ^ 8 * byte_at f (at + 1) + 2 ^ 16 * byte_at f (at + 2) + 2 ^ 24 * byte_at f (at + 3)

unfoldable pub u64_at : List ℕ → ℕ → ℕ
u64_at f at = u32_at f at + 2 ^ 32 * u32_at f (at + 4)

-- two's complement: from 2^31 on, a number stands for the one 2^32 below it
unfoldable pub signed : ℕ → ℤ
signed n = cond (ltb n (2 ^ 31)) (pos n) (neg_ℤ (pos (2 ^ 32 - n)))

unfoldable pub i32_at : List ℕ → ℕ → ℤ
i32_at f at = signed (u32_at f at)

-- ---- "records of 96 bytes"
unfoldable pub record_count : List ℕ → ℕ
record_count f = length f / 96

-- "Bytes 0 next (u32), 4 ride (u32), 8 kind (u8), 9 count (u8), 10 to 15 zero, unread; then four samples of 20"
unfoldable pub next_of : List ℕ → ℕ → ℕ
next_of f r = u32_at f (96 * r)

unfoldable pub ride_of : List ℕ → ℕ → ℕ
ride_of f r = u32_at f (96 * r + 4)

unfoldable pub kind_number : List ℕ → ℕ → ℕ
kind_number f r = byte_at f (96 * r + 8)

unfoldable pub count_of : List ℕ → ℕ → ℕ
count_of f r = byte_at f (96 * r + 9)

-- where sample k of record r begins
abbrev pub sample_start : ℕ → ℕ → ℕ
sample_start r k = 96 * r + 16 + 20 * k

-- "Kinds are those of `Kind`, 1 to 7": question 8 refuses any other number, which is read as Full
unfoldable pub kind_of : ℕ → Kind
kind_of zero = Full
kind_of (suc n) = get_or (Start ∷ Samples ∷ Pause ∷ Resume ∷ Finish ∷ Recovered ∷ Full ∷ []) n Full

-- ---- "flags (bit 0 located, bit 1 UTC, the rest unread), 3 unread, latitude i32, longitude i32, UTC u64"
unfoldable pub has_place : ℕ → Bool
has_place flags = eqb (flags % 2) 1

unfoldable pub has_utc : ℕ → Bool
has_utc flags = eqb (flags / 2 % 2) 1

-- "nor the places or UTC a flag lacks"
unfoldable pub place_at : Bool → List ℕ → ℕ → Option Fix
place_at true f at = Some (record { lat = i32_at f (at + 4); lon = i32_at f (at + 8) })
place_at false f at = None

unfoldable pub utc_at : Bool → List ℕ → ℕ → Option ℕ
utc_at true f at = Some (u64_at f (at + 12))
utc_at false f at = None

unfoldable pub sample_at : List ℕ → ℕ → Sample
sample_at f at = record { place = place_at (has_place (byte_at f at)) f at; utc = utc_at (has_utc (byte_at f at)) f at }

-- "Samples past count aren't read"
unfoldable pub no_sample : Sample
no_sample = record { place = None; utc = None }

unfoldable pub sample_of : List ℕ → ℕ → ℕ → Sample
sample_of f r k = cond (ltb k (count_of f r)) (sample_at f (sample_start r k)) no_sample

unfoldable pub samples_of : List ℕ → ℕ → List Sample
samples_of f r = sample_of f r 0 ∷ sample_of f r 1 ∷ sample_of f r 2 ∷ sample_of f r 3 ∷ []

unfoldable pub entry_at : List ℕ → ℕ → Entry
entry_at f r = record { ride = ride_of f r; kind = kind_of (kind_number f r); count = count_of f r; samples = samples_of f r }

-- "An entry carries four samples, of which count are used."
unfoldable pub used : Entry → List Sample
used e = take e.count e.samples

-- ---- "Record 0 gives the first record's index and, as ride, the recovered ride"
unfoldable pub recovered : List ℕ → ℕ
recovered f = ride_of f 0

-- "Next 0 ends the chain": the records reached from a next of r on, the first n of them
unfoldable pub records_from : ℕ → List ℕ → ℕ → List ℕ
records_from zero f r = []
records_from (suc n) f zero = []
records_from (suc n) f (suc r) = suc r ∷ records_from n f (next_of f (suc r))

-- The chain: the records reached from record 0 on. As many as the file has are enough, for a longer chain has reached one of
-- them twice, which question 7 refuses.
unfoldable pub chain : List ℕ → List ℕ
chain f = records_from (record_count f) f (next_of f 0)

unfoldable pub entries : List ℕ → List Entry
entries f = map (entry_at f) (chain f)

-- "slot k is the k-th record after record 0 along the chain below, from 0"
unfoldable pub slot : List ℕ → ℕ → Option Entry
slot f k = slice_get (entries f) k
