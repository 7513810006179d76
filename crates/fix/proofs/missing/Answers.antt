-- `fix::missing` meets its contract.
use mathlib.Core.Path.{sym, ◌∙◌}
use Rattle.fix.proofs.Arriving.{misses, waits}
use Rattle.fix.proofs.missing.Goals as goal

pub returns-then-lost : goal.returns-then-lost
returns-then-lost c = let g = c.args in
    misses g.now_ms g.h.now c.cleared.new.h (sym c.lost.ensures ∙ c.if-lost.true) c.cleared.ensures

pub returns-else-lost : goal.returns-else-lost
returns-else-lost c = let g = c.args in waits g.now_ms g.h.now g.h.now (sym c.lost.ensures ∙ c.if-lost.false)
