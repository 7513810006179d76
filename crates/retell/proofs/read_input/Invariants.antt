-- `retell::read_input` meets its contract: no more bytes are kept than there is room for.
use Rattle.std.proofs.Common.{length, ◌-◌, ◌≤◌}
use Rattle.retell.proofs.read_input.Given as goal

abbrev pub invariant-loop-kept : goal.invariant-loop-kept
invariant-loop-kept g l = l.kept ≤ length l.file

abbrev pub decreases-loop-kept : goal.decreases-loop-kept
decreases-loop-kept g l = length l.initial.file - l.kept
