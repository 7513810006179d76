-- `trail::Trail::last` is the last place that waits.
use mathlib.Core.Path.{sym, ap, ◌∙◌}
use native.Mathlib.Omega.{arith}
use Rattle.std.specs.Prelude.{Some}
use Rattle.trail.proofs.Window.{last-places, none-places}
use Rattle.trail.proofs.Trail.last.Goals as goal

pub returns-then-self-eq0 : goal.returns-then-self-eq0
returns-then-self-eq0 c = rw (c.if-self-eq0.true, none-places)

pub returns : goal.returns
returns c =
    let a = c.args in
    ap Some c.waiting.ensures ∙ sym (last-places a.self.now.window_len a.window.now (omega arith))
