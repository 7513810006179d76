-- `trail::Trail::flush` keeps the last place that waits, and empties the window.
use mathlib.Core.Path.{sym, ◌∙◌}
use Rattle.trail.proofs.Recording.{flushes-none, flushes}
use Rattle.trail.proofs.Trail.flush.Goals as goal

pub returns-in_default : goal.returns-in_default
returns-in_default c = flushes-none c.args.window.now _ c.requires (sym c.in_default.is ∙ c.last.ensures)

pub returns : goal.returns
returns c =
    flushes c.args.self.now c.args.window.now _ c.in-Some.p (sym c.in-Some.is ∙ c.last.ensures) (c.keep-thinned.ensures c.args.window.now)
