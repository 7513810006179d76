-- `joining::join_on` meets its contract.
use mathlib.Core.Path.{refl}
use Rattle.joining.specs.Join.{join_on, joined_to}
use Rattle.joining.proofs.join_on.Goals as goal

pub returns-in_default : goal.returns-in_default
unfolding join_on joined_to
returns-in_default c = λ b.
    let told = c.in_default.is in
    record { answered = simp told; same = simp told; held = record { len = refl; tolerance = refl; waiting = refl }; window = refl }

pub returns : goal.returns
unfolding join_on joined_to
returns c = λ b.
    let told = c.in-Some.is in
    record {
      answered = simp (told, ← c.saturating_add-h.ensures);
      same = simp (told, ← c.saturating_add-h.ensures);
      held = record { len = refl; tolerance = refl; waiting = refl };
      window = refl;
    }
