-- `matching::reminded_at` meets its contract.
use mathlib.Core.Path.{◌≡◌, refl, sym, ap, ◌∙◌}
use mathlib.Core.Logic.{inl, inr}
use Prim.Native.Nat.{ℕ}
use Rattle.state.specs.declared.Event.{Event}
use Rattle.matching.specs.Match.{reminded_at}
use Rattle.matching.proofs.reminded_at.Goals as goal

so : (now was : ℕ) {e x : Event} {at : ℕ} → e ≡ x → at ≡ reminded_at x now was → at ≡ reminded_at e now was
so now was is told = told ∙ sym (ap (λ (y : Event). reminded_at y now was) is)

pub returns-in-OffTrack : goal.returns-in-OffTrack
unfolding reminded_at
returns-in-OffTrack c = so c.args.now_ms c.args.was_ms c.in-OffTrack.is refl

pub returns-in-Nothing : goal.returns-in-Nothing
unfolding reminded_at
returns-in-Nothing c =
    let n = c.args.now_ms in
    let w = c.args.was_ms in
    elim c.in-Nothing.is [
      | inl e ↦ so n w e refl
      | inr k ↦
          elim k [
            | inl e ↦ so n w e refl
            | inr k ↦
                elim k [
                  | inl e ↦ so n w e refl
                  | inr k ↦ elim k [ inl e ↦ so n w e refl | inr k ↦ elim k [ inl e ↦ so n w e refl | inr e ↦ so n w e refl ] ]
                ]
          ]
    ]
