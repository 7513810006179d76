-- `fix::replay` meets its contract.
use mathlib.Core.Path.{refl}
use Rattle.fix.proofs.Arriving.{replays, on-it, passes}
use Rattle.fix.proofs.replay.Goals as goal

pub returns : goal.returns
returns c = let g = c.args in let p = c.framed-p.result in
    replays g.fix g.now_ms p c.located-h.ensures c.framed-p.ensures
    (on-it g.now_ms p c.track_heading-h.ensures (λ b. refl) refl refl) c.add.ensures
    (passes p c.passing-h.ensures (λ b. refl) refl refl)
