-- `joining::joining` meets its contract.
use Rattle.joining.specs.Join.{joining}
use Rattle.joining.proofs.joining.Goals as goal

pub returns : goal.returns
unfolding joining
returns c = λ b.
    let a = rw (c.join_with-join.ensures b) at (c.join_on.ensures b) in
    record { answered = a.answered; same = a.same; held = a.held; window = a.window }
