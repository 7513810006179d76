-- `door::calling::cittumay_new` meets its contract.
use Rattle.std.proofs.Common.{◌≡◌, ℕ, length, Bool, true, false, refl, sym, ap, ◌∙◌}
use native.Mathlib.Omega.{arith}
use Rattle.calls.specs.Questions.{question1, unless, ◌or_else◌}
use Rattle.homing.proofs.Calling.{or-nothing}
use Rattle.homing.proofs.Making.{asked-by}
use Rattle.door.specs.Through.{no_state}
use Rattle.door.proofs.calling.cittumay_new.Goals as goal

refuses : (q : Bool) → (unless q 1 or_else no_state) ≡ 0 → ⊥
refuses true e = omega (arith, e)
refuses false e = omega (arith, e)

-- question 1's answer, then whether there is room
by_room : (size : ℕ) {fits is : Bool} → fits ≡ is
    → (unless (question1 size) 1 or_else unless fits no_state) ≡ (unless (question1 size) 1 or_else unless is no_state)
by_room size = ap (λ fits. unless (question1 size) 1 or_else unless fits no_state)

pub returns-then-not-has_room : goal.returns-then-not-has_room
returns-then-not-has_room c =
    let new = c.new-answer in
    let size = length c.args.crumbs.now in
    record {
      asked = c.no_state_with.ensures ∙ by_room size c.if-not-has_room.ensures;
      made = new.result.0;
      answer = new.result.1;
      promised = new.ensures;
      leaves = record { taken = λ z. absurd (refuses (question1 size) (sym c.no_state_with.ensures ∙ z)); refused = λ _. (refl, refl) };
    }

pub returns : goal.returns
returns c =
    let new = c.new-answer in
    record {
      asked =
          or-nothing (c.keep.ensures.value ∙ c.number_of.ensures ∙ asked-by new.result.1 new.ensures.answered)
          ∙ by_room (length c.args.crumbs.now) c.if-not-has_room.ensures;
      made = new.result.0;
      answer = new.result.1;
      promised = new.ensures;
      leaves = c.keep.ensures.leaves;
    }
