-- The answer of a call that has nothing to tell, and the question that it names. Assumes nothing.
use mathlib.Core.Path.{◌≡◌, refl, ap, ◌∙◌}
use Prim.Native.Nat.{ℕ, zero, suc}
use lib.Dec.{eqb-suc-zero}
use Rattle.std.specs.Prelude.{Result, Ok, Err}
use Rattle.refusal.specs.declared.Refusal.{Refusal}
use Rattle.refusal.specs.Refusal.{asked}
use Rattle.calls.specs.Promises.{Answer, refused, gives, answer, says}
use Rattle.answers.proofs.Answering.{no, yes}

pub told : {n : ℕ} (a : Result (Unit {0}) Refusal) → asked a ≡ n → says a ≡ answer n tt
told (Ok x) e = yes e refl
told (Err q) e = no refl e tt

-- ---- the other way round
abbrev named : Answer (Unit {0}) → ℕ
named (refused n) = n
named (gives x) = 0

says_named : (a : Result (Unit {0}) Refusal) → asked a ≡ named (says a)
says_named (Ok x) = refl
says_named (Err q) = refl

answer_named : (n : ℕ) → named (answer n tt) ≡ n
unfolding answer
answer_named zero = refl
answer_named (suc n) = rw (eqb-suc-zero n)

pub asked-by : {n : ℕ} (a : Result (Unit {0}) Refusal) → says a ≡ answer n tt → asked a ≡ n
asked-by {n} a e = says_named a ∙ ap named e ∙ answer_named n
