-- `matching::on_course` meets its contract.
use Rattle.std.proofs.Common.{◌∙◌}
use Rattle.matching.proofs.Lines.{on-course}
use Rattle.matching.proofs.on_course.Goals as goal

pub returns : goal.returns
returns c = c.eq.ensures ∙ on-course c.args.line
