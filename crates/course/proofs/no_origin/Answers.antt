-- `course::no_origin` meets its contract.
use Rattle.course.proofs.Fixes.{missing}
use Rattle.course.proofs.no_origin.Goals as goal

pub returns : goal.returns
returns c = missing c.args.f.origin _ c.is_none.ensures
