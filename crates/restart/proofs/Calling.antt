-- The calls of a rebuild, refused or taken. Assumes nothing.
use Prim.Native.Nat.{ℕ}
use mathlib.Core.Path.{◌≡◌, refl, sym, ap, ◌∙◌}
use mathlib.Core.Logic.{◌≢◌}
use mathlib.Core.Bool.{Bool}
use mathlib.Core.List.{List}
use lib.ListN.{length}
use lib.Ieee.{Float}
use Rattle.state.specs.declared.Homing.{Homing}
use Rattle.state.specs.State.{state_of}
use Rattle.calls.specs.Questions.{asks_state, asks_crumbs}
use Rattle.std.specs.Prelude.{Option, Ok, Err, ℕ}
use Rattle.refusal.specs.declared.Refusal.{Refusal}
use Rattle.refusal.specs.Refusal.{number}
use Rattle.calls.specs.Promises.{answer, says}
use borrow.Author.Tests.{ne_eqb, eq-eqb}
use Rattle.ride_log.specs.Entry.{slot}
use Rattle.ride_log.specs.Questions.{asks_file}
use Rattle.rebuild.specs.declared.Rebuild.{Rebuild}
use Rattle.rebuild.specs.Rebuild.{takes_over, walk, step, settle}
use Rattle.rebuild.specs.View.{Makes, Settles}
use Rattle.restart.specs.Promises.{asks_step, Steps, SettlesBreadcrumb}
use Rattle.questions.proofs.Given.{neither}

-- ---- `step`
module _ (file : List ℕ) (h : Homing) (b : List Float) {n : ℕ} (asked : n ≡ asks_step (length b) file (state_of h b)) where
  pub step-crumbs : n ≡ 0 → asks_crumbs (length b) (state_of h b) ≡ 0
  unfolding asks_step
  step-crumbs z = (neither (asks_crumbs (length b) (state_of h b)) (asks_file file) (sym asked ∙ z)).0

  pub step-file : n ≡ 0 → asks_file file ≡ 0
  unfolding asks_step
  step-file z = (neither (asks_crumbs (length b) (state_of h b)) (asks_file file) (sym asked ∙ z)).1

-- ---- an answer by the number of the question that says no
says-no : {A : Type 0} (q : Refusal) (x : A) {n : ℕ} → number q ≡ n → n ≢ 0 → says {A = A} (Err q) ≡ answer n x
unfolding answer
says-no q x {n} e ne = rw (ne_eqb n 0 ne, e)

says-yes : {A : Type 0} {x y : A} {n : ℕ} → n ≡ 0 → x ≡ y → says (Ok x) ≡ answer n y
unfolding answer
says-yes {n = n} z e = rw (eq-eqb n 0 z, e)

module _ (budget upper : ℕ) (file : List ℕ) (r : Rebuild) (h : Homing) (b : List Float) where
  abbrev pub asked : ℕ
  asked = asks_step (length b) file (state_of h b)

  pub step-refused : (q : Refusal) → number q ≡ asked → number q ≢ 0 → Steps budget upper file r h b r h (Err q) b
  step-refused q e ne =
      record {
        answered = says-no q _ e (λ z. ne (e ∙ z));
        taken = λ z. absurd (ne (e ∙ z));
        refused = λ _. (refl, refl, refl);
        size = refl;
      }

  pub step-taken : {n : Rebuild} {k : Homing} {exit : List Float} {done : Bool} → asked ≡ 0
      → Makes (walk budget upper (slot file) r) h b n k exit
      → done ≡ takes_over upper n
      → Steps budget upper file r h b n k (Ok done) exit
  unfolding step
  step-taken z m e =
      record {
        answered = says-yes z (e ∙ ap (λ (x : Rebuild). takes_over upper x) m.rebuilt);
        taken = λ _. m;
        refused = λ ne. absurd (ne z);
        size = m.size;
      }

-- ---- `settle`
module _ (t : Option ℕ) (r : Rebuild) (h : Homing) where
  pub settle-refused : (q : Refusal) → ((b : List Float) → number q ≡ asks_state (state_of h b)) → number q ≢ 0
      → SettlesBreadcrumb t r h r h (Err q)
  settle-refused q e ne =
      record {
        answered = λ b. says-no q tt (e b) (λ z. ne (e b ∙ z));
        taken = λ b z. absurd (ne (e b ∙ z));
        refused = λ b _. (refl, refl);
      }

  pub settle-taken : {n : Rebuild} {k : Homing} → ((b : List Float) → 0 ≡ asks_state (state_of h b)) → Settles (settle t r) h n k
      → SettlesBreadcrumb t r h n k (Ok tt)
  settle-taken z s =
      record { answered = λ b. says-yes (sym (z b)) refl; taken = λ b _. s; refused = λ b ne. absurd (ne (sym (z b))) }
