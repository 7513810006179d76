-- Every slot of a chain is looked at, and a file that is too long is refused however it is cut. Assumes nothing.
use Prim.Native.Nat.{ℕ, zero, suc, ◌/◌, ◌%◌, ◌≤◌, ◌<◌}
use mathlib.Core.Path.{◌≡◌, refl, sym, ap, ◌∙◌}
use mathlib.Core.Bool.{Bool, true, false, ◌&&◌, and-false}
use mathlib.Core.Logic.{◌≢◌}
use Rattle.std.specs.Prelude.{None}
use mathlib.Core.List.{List, [], ◌∷◌, map}
use native.Mathlib.Omega.{arith}
use native.Mathlib.Nat.{le_refl}
use borrow.Author.Tests.{ne_eqb, leb-true, leb-false}
use lib.Dec.{eqb, leb}
use lib.ListN.{length, take, length-take}
use Rattle.std.specs.List.{slice_get}
use lib.Seq.{take_all}
use Rattle.ride_log.specs.Entry.{next_of, record_count, records_from, chain, entry_at, entries, slot}
use Rattle.ride_log.specs.Questions.{question6, asks_chain, asks_file}
use Rattle.ride_log.proofs.file_questions.Theorems.{accepted}
use Rattle.rebuild.specs.Rebuild.{step}
use Rattle.rebuild.proofs.Theorems.{caught-up}
use Rattle.retelling.specs.Text.{refused_text}
use Rattle.retelling.proofs.lines.Numbers.{passed-by}
use Rattle.retelling.specs.Retold.{slots, rebuilt, retold, EveryWhole, read_most, EveryCut}

-- ---- "On refusal it prints only `refused N`."
pub retold-refused : (file : List ℕ) → asks_file file ≢ 0 → retold file ≡ refused_text (asks_file file)
unfolding retold
retold-refused file h = passed-by _ _ (eqb (asks_file file) 0) (ne_eqb (asks_file file) 0 h)

-- ---- a file that is too long
-- 682 records and a part of one, or more records
long : (n : ℕ) → 65472 < n → leb (n / 96) 682 ≡ true → n % 96 ≢ 0
long n h e = let l : n / 96 ≤ 682 = leb-true (n / 96) 682 e in λ z. omega arith

question6-long : (n : ℕ) → 65472 < n → question6 n ≡ false
unfolding question6
question6-long n h = by (leb (n / 96) 682) refl
  where
    by : (b : Bool) → leb (n / 96) 682 ≡ b → question6 n ≡ false
    by true e = simp (ne_eqb (n % 96) 0 (long n h e))
    by false e = rw e (and-false (eqb (n % 96) 0 && leb 1 (n / 96)))

too_long : (file : List ℕ) → 65472 < length file → asks_file file ≡ 6
unfolding asks_file asks_chain
too_long file h = rw (question6-long (length file) h)

six : (file : List ℕ) → 65472 < length file → retold file ≡ refused_text 6
six file h = let e : asks_file file ≡ 6 = too_long file h in retold-refused file (λ z. omega arith) ∙ ap refused_text e

pub cut : EveryCut
cut file = by (leb (length file) read_most) refl
  where
    by : (b : Bool) → leb (length file) read_most ≡ b → retold (take read_most file) ≡ retold file
    by true e = ap retold (take_all read_most file (leb-true (length file) read_most e))
    by false e =
        let h : read_most < length file = leb-false (length file) read_most e in
        six (take read_most file) (simp length-take (omega arith)) ∙ sym (six file (omega arith))

-- ---- "the whole chain"
walk-within : (n : ℕ) (f : List ℕ) (r : ℕ) → length (records_from n f r) ≤ n
unfolding records_from
walk-within zero f r = le_refl 0
walk-within (suc n) f zero = omega arith
walk-within (suc n) f (suc r) = let again : length (records_from n f (next_of f (suc r))) ≤ n = walk-within n f (next_of f (suc r)) in
    omega arith

past : {A : Type 0} (g : ℕ → A) (l : List ℕ) (k : ℕ) → length l ≤ k → slice_get (map g l) k ≡ None
past g [] k h = refl
past g (x ∷ l) zero h = absurd (omega arith)
past g (x ∷ l) (suc k) h = past g l k (omega arith)

pub whole : EveryWhole
unfolding rebuilt step slot entries chain
whole file a =
    let most : record_count file ≤ 682 = (accepted file a).most in
    let within : length (records_from (record_count file) file (next_of file 0)) ≤ record_count file =
    walk-within (record_count file) file (next_of file 0) in
    record {
      looked = caught-up slots slots _ _ (le_refl slots);
      beyond =
          λ k h. past (entry_at file) (records_from (record_count file) file (next_of file 0)) k (omega arith);
    }
