-- The numbers of the questions. Document 01, "Questions put to a call, first no wins".
use Rattle.std.specs.Prelude.{ℕ, Bool, cond, Result, Ok, Err}
use Rattle.refusal.specs.declared.Refusal.{Refusal}
use Rattle.refusal.specs.declared.Refusal.TheVariants as refusal

abbrev pub number : Refusal → ℕ
number refusal.CrumbBuffer = 1
number refusal.Latitude = 2
number refusal.Longitude = 3
number refusal.LineBuffer = 4
number refusal.SampleCount = 5
number refusal.FileLength = 6
number refusal.Chain = 7
number refusal.EntryKind = 8
number refusal.Thinning = 9
number refusal.State = 10

-- the number of the question that says no, 0 where none does
abbrev pub asked : {A : Type 0} → Result A Refusal → ℕ
asked (Ok x) = 0
asked (Err q) = number q

-- a question's number where it says no
abbrev pub unless : Bool → ℕ → ℕ
unless b n = cond b 0 n
