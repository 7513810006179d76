-- The proof of `specs/Theorems.antt`. Assumes nothing.
use Prim.Native.Nat.{ℕ, zero, suc, ◌+◌, ◌*◌, ◌/◌, ◌≤◌, ◌<◌}
use mathlib.Core.Path.{◌≡◌, refl, ap, ap₂, ◌∙◌}
use mathlib.Core.Bool.{Bool, true, false, not, cond, or-true, false≢true, and-eq-true_iff}
use mathlib.Core.List.{List, [], ◌∷◌, map}
use native.Mathlib.Nat.{add-zero, add_assoc}
use native.Mathlib.Omega.{arith}
use borrow.Author.Tests.{eqb-true, eq-eqb, ltb-true, not-true}
use lib.Dec.{ltb, eqb}
use lib.ListN.{length}
use Rattle.calls.specs.Questions.{latitude_fits, longitude_fits, asks_fix, ◌or_else◌, unless}
use Rattle.ride_log.specs.Entry.{byte_at, u32_at, u64_at, i32_at, signed, record_count, next_of, ride_of, kind_number, count_of}
use Rattle.ride_log.specs.Entry.{sample_start}
use Rattle.ride_log.specs.Entry.{kind_of, has_place, has_utc, place_at, utc_at, sample_at, no_sample, sample_of, samples_of, entry_at}
use Rattle.ride_log.specs.Entry.{recovered}
use Rattle.ride_log.specs.Entry.{records_from, chain, entries, used}
use Rattle.calls.specs.Calls.{asks_place}
use Rattle.ride_log.specs.Questions.{question6, question7, question8, below, stands, twice, asks_samples, asks_entry, asks_record}
use Rattle.ride_log.specs.Questions.{asks_records, asks_chain, asks_file}
use Rattle.ride_log.specs.Theorems.{Accepted, EveryAccepted, Same, SameSample, SameRecord, SameRead, Alike, OnlyRead, example, Example}
use Rattle.ride_log.proofs.file_questions.Chain.{by, chain-ends}
use Rattle.questions.proofs.Given.{neither, passed}
use Rattle.std.proofs.lemmas.Bool.Decides.{nat_tests}

-- ---- what a file that no question refuses gives
each-asked : (f l : List ℕ) (r : ℕ) → asks_records f l ≡ 0 → stands r l ≡ true → asks_record f r ≡ 0
unfolding asks_records stands
each-asked f [] r e h = absurd (false≢true h)
each-asked f (s ∷ l) r e h =
    by (eqb r s)
    (λ t. rw (eqb-true r s t) (neither (asks_record f s) (asks_records f l) e).0)
    (λ t. each-asked f l r (neither (asks_record f s) (asks_records f l) e).1 (rw t at h))

module _ (f : List ℕ) (e : asks_file f ≡ 0) where
  chain-asked : asks_chain f ≡ 0
  unfolding asks_file
  chain-asked = (neither (asks_chain f) (asks_records f (chain f)) e).0

  size_fits : question6 (length f) ≡ true
  unfolding asks_chain
  size_fits = passed (question6 (length f)) 5 (neither (unless (question6 (length f)) 6) (unless (question7 f) 7) chain-asked).0

  chain_fits : question7 f ≡ true
  unfolding asks_chain
  chain_fits = passed (question7 f) 6 (neither (unless (question6 (length f)) 6) (unless (question7 f) 7) chain-asked).1

  whole-records : length f ≡ 96 * record_count f
  unfolding question6 record_count
  whole-records = let fits = size_fits in grind (arith, nat_tests)

  one-record : 1 ≤ record_count f
  unfolding question6 record_count
  one-record = let fits = size_fits in grind (arith, nat_tests)

  most-records : record_count f ≤ 682
  unfolding question6 record_count
  most-records = let fits = size_fits in grind (arith, nat_tests)

  pub accepted : Accepted f
  unfolding asks_file chain question7 record_count
  accepted =
      let both = (and-eq-true_iff (below (record_count f) (chain f)) (not (twice (chain f)))).0 chain_fits in
      record {
        whole = whole-records;
        least = one-record;
        most = most-records;
        ends = chain-ends f one-record chain_fits;
        inside = both.0;
        once = not-true (twice (chain f)) both.1;
        each = λ r h. each-asked f (chain f) r (neither (asks_chain f) (asks_records f (chain f)) e).1 h;
      }

pub every-accepted : EveryAccepted
every-accepted = accepted

-- ---- what is read
module _ (f g : List ℕ) where
  part : (at n : ℕ) → Same f g at n → (from m : ℕ) → from + m ≤ n → Same f g (at + from) m
  part at n same from m h i k = rw (add_assoc at from i) (same (from + i) (omega arith))

  u32-same : (at : ℕ) → Same f g at 4 → u32_at f at ≡ u32_at g at
  unfolding u32_at
  u32-same at same =
      let first : byte_at f at ≡ byte_at g at = rw (add-zero at) at (same 0 (omega arith)) in
      rw (first, same 1 (omega arith), same 2 (omega arith), same 3 (omega arith))

  u64-same : (at : ℕ) → Same f g at 8 → u64_at f at ≡ u64_at g at
  unfolding u64_at
  u64-same at same =
      let low = u32-same at (λ i h. same i (omega arith)) in
      rw (low, u32-same (at + 4) (part at 8 same 4 4 (omega arith)))

  -- ---- a sample
  module _ (at : ℕ) where
    place_same : (b : Bool) → (b ≡ true → Same f g (at + 4) 8) → place_at b f at ≡ place_at b g at
    unfolding place_at i32_at
    place_same true same =
        let there = same refl in
        let lat = u32-same (at + 4) (λ i h. there i (omega arith)) in
        let lon : u32_at f (at + 8) ≡ u32_at g (at + 8) =
        rw (add_assoc at 4 4) at (u32-same (at + 4 + 4) (part (at + 4) 8 there 4 4 (omega arith))) in
        rw (lat, lon)
    place_same false same = refl

    utc-same : (b : Bool) → (b ≡ true → Same f g (at + 12) 8) → utc_at b f at ≡ utc_at b g at
    unfolding utc_at
    utc-same true same = rw (u64-same (at + 12) (same refl))
    utc-same false same = refl

    sample-same : SameSample f g at → sample_at f at ≡ sample_at g at
    unfolding sample_at
    sample-same s =
        ap₂ (λ p u. record { place = p; utc = u })
        (place_same (has_place (byte_at f at)) s.place ∙ ap (λ b. place_at b g at) s.bit0)
        (utc-same (has_utc (byte_at f at)) s.utc ∙ ap (λ b. utc_at b g at) s.bit1)

  -- ---- a record
  module _ (r : ℕ) (s : SameRecord f g r) where
    next-same : next_of f r ≡ next_of g r
    unfolding next_of
    next-same = u32-same (96 * r) (λ i h. s.head i (omega arith))

    ride-same : ride_of f r ≡ ride_of g r
    unfolding ride_of
    ride-same = u32-same (96 * r + 4) (part (96 * r) 10 s.head 4 4 (omega arith))

    kind-same : kind_number f r ≡ kind_number g r
    unfolding kind_number
    kind-same = s.head 8 (omega arith)

    count_same : count_of f r ≡ count_of g r
    unfolding count_of
    count_same = s.head 9 (omega arith)

    used-same : (k : ℕ) → k < 4 → (b : Bool) → ltb k (count_of f r) ≡ b
        → cond b (sample_at f (sample_start r k)) no_sample ≡ cond b (sample_at g (sample_start r k)) no_sample
    used-same k h true t = sample-same (sample_start r k) (s.samples k h (ltb-true k (count_of f r) t))
    used-same k h false t = refl

    of-same : (k : ℕ) → k < 4 → sample_of f r k ≡ sample_of g r k
    unfolding sample_of
    of-same k h = used-same k h (ltb k (count_of f r)) refl ∙ ap (λ n. cond (ltb k n) (sample_at g (sample_start r k)) no_sample) count_same

    samples-same : samples_of f r ≡ samples_of g r
    unfolding samples_of
    samples-same = rw (of-same 0 (omega arith), of-same 1 (omega arith), of-same 2 (omega arith), of-same 3 (omega arith))

    entry-same : entry_at f r ≡ entry_at g r
    unfolding entry_at
    entry-same = rw (ride-same, kind-same, count_same, samples-same)

    record_same : asks_record f r ≡ asks_record g r
    unfolding asks_record
    record_same = rw (kind-same, entry-same)

  -- ---- the chain
  walk_same : (n r : ℕ) → ((x : ℕ) → stands x (records_from n f r) ≡ true → next_of f x ≡ next_of g x)
      → records_from n f r ≡ records_from n g r
  unfolding records_from stands
  walk_same zero r same = refl
  walk_same (suc n) zero same = refl
  walk_same (suc n) (suc r) same =
      let next : next_of f (suc r) ≡ next_of g (suc r) = same (suc r) (rw (eq-eqb (suc r) (suc r) refl)) in
      let later = walk_same n (next_of f (suc r)) (λ x h. same x (rw (h, or-true (eqb x (suc r))))) in
      ap (λ l. suc r ∷ l) (later ∙ ap (records_from n g) next)

  -- what is the same of each record of a list
  module _ {A : Type 0} (rule : List ℕ → ℕ → A) where
    map_same : (l : List ℕ) → ((r : ℕ) → stands r l ≡ true → rule f r ≡ rule g r) → map (rule f) l ≡ map (rule g) l
    unfolding stands
    map_same [] same = refl
    map_same (s ∷ l) same =
        ap₂ (λ x m. x ∷ m) (same s (rw (eq-eqb s s refl))) (map_same l (λ r h. same r (rw (h, or-true (eqb r s)))))

  records-same : (l : List ℕ) → ((r : ℕ) → stands r l ≡ true → asks_record f r ≡ asks_record g r) → asks_records f l ≡ asks_records g l
  unfolding asks_records stands
  records-same [] same = refl
  records-same (s ∷ l) same =
      ap₂ (λ a b. a or_else b) (same s (rw (eq-eqb s s refl))) (records-same l (λ r h. same r (rw (h, or-true (eqb r s)))))

  -- ---- the file
  module _ (s : SameRead f g) where
    count-files : record_count f ≡ record_count g
    unfolding record_count
    count-files = ap (λ n. n / 96) s.size

    begin-same : next_of f 0 ≡ next_of g 0
    unfolding next_of
    begin-same = u32-same 0 (λ i h. s.head i (omega arith))

    chain_same : chain f ≡ chain g
    unfolding chain
    chain_same =
        walk_same (record_count f) (next_of f 0) (λ x h. next-same x (s.records x h))
        ∙ ap₂ (λ n r. records_from n g r) count-files begin-same

    judged-same : asks_chain f ≡ asks_chain g
    unfolding asks_chain question7
    judged-same = rw (s.size, count-files, chain_same)

    pub alike : Alike f g
    unfolding asks_file recovered ride_of entries
    alike =
        record {
          asked =
              ap₂ (λ a b. a or_else b) judged-same
              (records-same (chain f) (λ r h. record_same r (s.records r h)) ∙ ap (asks_records g) chain_same);
          ride = u32-same 4 (part 0 8 s.head 4 4 (omega arith));
          same = map_same entry_at (chain f) (λ r h. entry-same r (s.records r h)) ∙ ap (map (entry_at g)) chain_same;
        }

pub only-read : OnlyRead
only-read = alike

-- ---- the worked file
pub worked : Example
unfolding example asks_file asks_chain question6 question7 question8 below stands twice asks_records asks_record asks_entry chain
    records_from
    record_count next_of ride_of kind_number count_of kind_of has_place has_utc place_at utc_at sample_at sample_of samples_of entry_at
    recovered
    entries u32_at u64_at i32_at byte_at signed asks_samples used asks_place asks_fix latitude_fits longitude_fits
worked = record { accepted = refl; ride = refl; only = refl }
