-- `fix::passing` meets its contract.
use mathlib.Core.Path.{ap}
use Rattle.lap.specs.declared.Lap.{Lap}
use Rattle.fix.specs.Pass.{passing}
use Rattle.fix.proofs.passing.Goals as goal

abbrev passed_over : Lap → Lap → Lap
passed_over n l = record { pass = n.pass; start = n.start; passed = l.passed }

pub returns : goal.returns
unfolding passing
returns c = ap (λ (n : Lap). passed_over n c.args.l) c.step_pass-next.ensures
