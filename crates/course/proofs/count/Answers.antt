-- `course::count` meets its contract: the shorter of the two lists.
use native.Mathlib.Omega.{arith}
use Rattle.course.proofs.Fixes.{length-fixes}
use Rattle.course.proofs.count.Goals as goal

pub returns : goal.returns
returns c = omega (arith, c.min.ensures, length-fixes c.args.lats.now c.args.lons.now)
