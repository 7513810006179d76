-- `update::begun` meets its contract.
use mathlib.Core.Path.{refl, ap}
use Rattle.lap.specs.declared.Lap.{Lap}
use Rattle.state.specs.State.{state_of, with_lap, with_updated_ms}
use Rattle.update.specs.Update.{begun}
use Rattle.update.proofs.begun.Goals as goal

pub returns : goal.returns
unfolding begun
returns c =
    let g = c.args in
    record {
      same = λ b. ap (λ (l : Lap). with_updated_ms g.now_ms (with_lap l (state_of g.h.now b))) c.step_pass-h.ensures;
      trail = refl;
      window = refl;
    }
