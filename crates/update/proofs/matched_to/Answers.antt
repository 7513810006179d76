-- `update::matched_to` meets its contract.
use mathlib.Core.Path.{sym, ◌∙◌}
use lib.Ieee.{of_bits}
use Rattle.binary32.specs.Arithmetic.{constant}
use Rattle.matching.specs.Distances.{drop_m}
use Rattle.update.proofs.Deciding.{drops, reaches_end, goes_on}
use Rattle.update.proofs.matched_to.Goals as goal

pub returns-then-near : goal.returns-then-near
unfolding drop_m constant of_bits
returns-then-near c =
    record { comes = (λ C at course p s is. drops C at course p s c.args.near c.if-near.true); stays_in = (λ len on. tt) }

pub returns-then-at_course_end : goal.returns-then-at_course_end
unfolding drop_m constant of_bits
returns-then-at_course_end c =
    let near = c.args.near in
    let end = c.at_course_end in record {
      comes = (λ C at course p s is. reaches_end C at course p s near c.if-near.false
          (sym (end.ensures s is) ∙ c.if-at_course_end.true));
      stays_in = (λ len on. tt);
    }

pub returns : goal.returns
unfolding drop_m constant of_bits
returns c =
    let near = c.args.near in
    let end = c.at_course_end in record {
      comes = (λ C at course p s is. goes_on C at course p s near c.if-near.false
          (sym (end.ensures s is) ∙ c.if-at_course_end.false));
      stays_in = (λ len on. on);
    }
