-- Samples and records that are asked one after another: where those passed say nothing, those to come say what all do. Assumes nothing.
use Prim.Native.Nat.{ℕ, zero, suc, ◌+◌, ◌-◌, ◌≤◌, ◌<◌}
use mathlib.Core.Path.{◌≡◌, sym, ap, ◌∙◌}
use mathlib.Core.Bool.{true, false, ◌&&◌}
use mathlib.Core.Logic.{◌≢◌}
use mathlib.Core.List.{List, [], ◌∷◌}
use native.Mathlib.Nat.{sub-zero}
use native.Mathlib.Numerals.{add-one}
use native.Mathlib.Omega.{arith}
use borrow.Author.Tests.{ne_eqb, ltb-true, ltb-false, lt-ltb, le-ltb}
use lib.Dec.{ltb}
use Rattle.ride_log.proofs.file_questions.Chain.{by, length-tells, outside-tells}
use lib.ListN.{length, get_or, take, drop}
use lib.Seq.{drop-cons}
use Rattle.std.specs.Prelude.{Option}
use Rattle.plane.specs.declared.Fix.{Fix}
use Rattle.calls.specs.Questions.{◌or_else◌}
use Rattle.ride_log.specs.Entry.{record_count, chain, count_of, sample_start, sample_at, no_sample, sample_of}
use Rattle.ride_log.specs.Entry.{samples_of, used, entry_at}
use Rattle.calls.specs.Calls.{asks_place}
use Rattle.ride_log.specs.Questions.{question7, below, asks_samples, asks_record, asks_records}

left-tells : (m l count : ℕ) → l + m ≡ count → ltb 0 m ≡ ltb l count
left-tells m l count e =
    by (ltb 0 m)
    (λ t. let h = ltb-true 0 m t in t ∙ sym (lt-ltb l count (omega (arith, h, e))))
    (λ t. let h = ltb-false 0 m t in t ∙ sym (le-ltb l count (omega (arith, h, e))))

-- ---- the records along the chain, of which those of l are still to come and no more than n
pub record Meeting (f : List ℕ) (count n : ℕ) (l : List ℕ) : Type 0 where
  pub all : length (chain f) + n ≡ length l + count
  pub inside : below count l ≡ below count (chain f)

module _ {f : List ℕ} {count n : ℕ} {l : List ℕ} (before : Meeting f count n l) where
  module _ {x : ℕ} {k : List ℕ} (next : l ≡ x ∷ k) where
    split-below : (ltb x count && below count k) ≡ below count (chain f)
    unfolding below
    split-below = rw next at before.inside

    pub meeting-next : {m : ℕ} → m + 1 ≡ n → x < count → Meeting f count m k
    meeting-next e h =
        let one : length l ≡ suc (length k) = ap length next in
        record { all = omega (arith, one, before.all, e); inside = sym (rw (lt-ltb x count h)) ∙ split-below }

    pub meeting-out : count ≡ record_count f → count ≤ x → false ≡ question7 f
    meeting-out e h = outside-tells f (ap (λ n. below n (chain f)) (sym e) ∙ sym split-below ∙ rw (le-ltb x count h))

  pub meeting-end : {m : ℕ} → m ≡ n → count ≡ record_count f → 1 ≤ count → l ≡ [] → ltb 0 m ≡ question7 f
  unfolding below
  meeting-end {m} same e some none =
      let z : length l ≡ 0 = ap length none in
      let inside : below count (chain f) ≡ true = sym before.inside ∙ ap (below count) none in
      left-tells m (length (chain f)) count (omega (arith, z, before.all, same))
      ∙ ap (ltb (length (chain f))) e ∙ length-tells f (rw e at some) (rw e at inside)

-- ---- the same, where each record met is asked
pub record Asking (f l : List ℕ) : Type 0 where
  pub rest : asks_records f l ≡ asks_records f (chain f)

module _ {f l : List ℕ} (before : Asking f l) where
  module _ {x : ℕ} {k : List ℕ} (next : l ≡ x ∷ k) where
    split : (asks_record f x or_else asks_records f k) ≡ asks_records f (chain f)
    unfolding asks_records
    split = rw next at before.rest

    pub asking-next : 0 ≡ asks_record f x → Asking f k
    asking-next e = record { rest = sym (rw (← e)) ∙ split }

    pub asking-no : {n : ℕ} → n ≡ asks_record f x → n ≢ 0 → n ≡ asks_records f (chain f)
    asking-no {n} e ne = sym (rw (← e, ne_eqb n 0 ne)) ∙ split

  pub asking-end : l ≡ [] → 0 ≡ asks_records f (chain f)
  unfolding asks_records
  asking-end none = sym (rw none) ∙ before.rest

-- ---- the samples that are used
module _ (f : List ℕ) (r : ℕ) {count : ℕ} (told : count ≡ count_of f r) where
  sample-there : (k : ℕ) → count ≤ 4 → k < count → get_or (samples_of f r) k no_sample ≡ sample_at f (sample_start r k)
  unfolding samples_of sample_of
  sample-there zero most h = rw (← told, lt-ltb 0 count h)
  sample-there (suc zero) most h = rw (← told, lt-ltb 1 count h)
  sample-there (suc (suc zero)) most h = rw (← told, lt-ltb 2 count h)
  sample-there (suc (suc (suc zero))) most h = rw (← told, lt-ltb 3 count h)
  sample-there (suc (suc (suc (suc k)))) most h = absurd (omega arith)

  all-used : take count (samples_of f r) ≡ used (entry_at f r)
  unfolding used entry_at
  all-used = ap (λ n. take n (samples_of f r)) told

-- after the first k
pub record Using (f : List ℕ) (r count k : ℕ) : Type 0 where
  pub rest : asks_samples (take (count - k) (drop k (samples_of f r))) ≡ asks_samples (take count (samples_of f r))

pub using-start : (f : List ℕ) (r count : ℕ) → Using f r count 0
using-start f r count = record { rest = ap (λ n. asks_samples (take n (samples_of f r))) (sub-zero count) }

module _ {f : List ℕ} {r count k : ℕ} (before : Using f r count k) (told : count ≡ count_of f r) where
  module _ {n : ℕ} {p : Option Fix} (most : count ≤ 4) (more : k < count) (read : p ≡ (sample_at f (sample_start r k)).place)
      (asked : n ≡ asks_place p) where
    sample-split : (n or_else asks_samples (take (count - (k + 1)) (drop (k + 1) (samples_of f r))))
        ≡ asks_samples (take count (samples_of f r))
    unfolding asks_samples samples_of
    sample-split =
        let left : count - k ≡ suc (count - (k + 1)) = omega arith in
        let room : k < length (samples_of f r) = omega arith in
        let first = drop-cons (samples_of f r) k no_sample room in
        sym (rw (left, first, sample-there f r told k most more, ← read, ← asked, add-one k)) ∙ before.rest

    pub using-no : n ≢ 0 → n ≡ asks_samples (used (entry_at f r))
    using-no ne = sym (rw (ne_eqb n 0 ne)) ∙ sample-split ∙ ap asks_samples (all-used f r told)

    pub using-next : n ≡ 0 → Using f r count (k + 1)
    using-next z = record { rest = sym (rw z) ∙ sample-split }

  pub using-end : count ≤ k → 0 ≡ asks_samples (used (entry_at f r))
  unfolding asks_samples
  using-end h =
      let none : count - k ≡ 0 = omega arith in
      sym (rw none) ∙ before.rest ∙ ap asks_samples (all-used f r told)
