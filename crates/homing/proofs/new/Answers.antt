-- `homing::new` meets its contract.
use Rattle.std.proofs.Common.{ap, ◌∙◌}
use Rattle.calls.specs.Questions.{unless}
use Rattle.homing.proofs.Making.{told}
use Rattle.homing.proofs.new.Goals as goal

pub returns : goal.returns
returns c =
    record {
      answered = told c.unless.result (c.unless.ensures ∙ ap (λ q. unless q 1) c.question1.ensures);
      fresh = c.new.ensures.same;
      window = c.new.ensures.window;
    }
