-- Behind what stood before are the lines of the crumbs that are passed.
use Rattle.crumbs.specs.Crumb.{crumbs}
use Rattle.retelling.specs.Writing.{Puts}
use Rattle.retelling.specs.Text.{crumb_lines}
use Rattle.retelling.proofs.lines.Writer.put_crumbs.Given as goal

abbrev pub invariant-loop-i : goal.invariant-loop-i
invariant-loop-i l = Puts (crumb_lines (crumbs l.i l.buf)) l.initial.self l.self
