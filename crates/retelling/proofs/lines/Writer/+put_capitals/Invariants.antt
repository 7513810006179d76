-- One digit fewer is left.
use Rattle.retelling.proofs.lines.Writer.+put_capitals.Given as goal

abbrev pub decreases-put_capitals : goal.decreases-put_capitals
decreases-put_capitals l = l.count
