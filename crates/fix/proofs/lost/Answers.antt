-- `fix::lost` meets its contract.
use Prim.Native.Nat.{ℕ}
use mathlib.Core.Path.{sym, ap, ◌∙◌}
use mathlib.Core.Bool.{Bool, ◌&&◌}
use lib.Dec.{ltb}
use Rattle.motion.specs.Heading.{elapsed}
use Rattle.calls.specs.Fix.{fix_lost_ms}
use Rattle.fix.proofs.lost.Goals as goal

pub returns-then-is_some : goal.returns-then-is_some
returns-then-is_some c =
    let g = c.args in
    ap (λ (n : ℕ). ltb fix_lost_ms n) c.elapsed.ensures
    ∙ sym (ap (λ (x : Bool). x && ltb fix_lost_ms (elapsed g.now_ms g.h.now.here_ms))
    (sym c.is_some.ensures ∙ c.if-is_some.true))

pub returns-else-is_some : goal.returns-else-is_some
returns-else-is_some c =
    let g = c.args in
    c.if-is_some.false
    ∙ sym (ap (λ (x : Bool). x && ltb fix_lost_ms (elapsed g.now_ms g.h.now.here_ms)) (sym c.is_some.ensures ∙ c.if-is_some.false))
