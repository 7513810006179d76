-- `joining::retracing` meets its contract.
use mathlib.Core.Path.{refl, sym, ap, ◌∙◌}
use Rattle.std.specs.Prelude.{Bool}
use Rattle.trail.specs.View.{track}
use Rattle.state.specs.State.{state_of}
use Rattle.state.specs.Rule.{Done}
use Rattle.joining.specs.Join.{with_retrace}
use Rattle.joining.proofs.Counting.{rode-back, rode-on}
use Rattle.joining.proofs.retracing.Goals as goal

pub returns-then-rides_back : goal.returns-then-rides_back
unfolding track with_retrace
returns-then-rides_back c =
    let g = c.args in
    let b = g.crumbs.now in
    let is = rode-back g.p (state_of g.h.now b) (sym (rw c.new-line.ensures at c.rides_back.ensures) ∙ c.if-rides_back.true) in
    record {
      answered = sym (ap (λ (d : Done Bool). d.answer) is);
      same = simp (c.len_before-h.ensures g.h.now.window b) (sym (ap (λ (d : Done Bool). d.state) is));
      held = record { len = refl; tolerance = refl; waiting = refl };
      window = refl;
    }

pub returns : goal.returns
unfolding track with_retrace
returns c =
    let g = c.args in
    let is = rode-on g.p (state_of g.h.now g.crumbs.now) (sym (rw c.new-line.ensures at c.rides_back.ensures) ∙ c.if-rides_back.false) in
    record {
      answered = sym (ap (λ (d : Done Bool). d.answer) is);
      same = sym (ap (λ (d : Done Bool). d.state) is);
      held = record { len = refl; tolerance = refl; waiting = refl };
      window = refl;
    }
