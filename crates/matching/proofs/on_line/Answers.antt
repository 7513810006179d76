-- `matching::on_line` meets its contract.
use Rattle.std.proofs.Common.{◌∙◌}
use Rattle.matching.proofs.Lines.{on-line}
use Rattle.matching.proofs.on_line.Goals as goal

pub returns : goal.returns
returns c = c.ne.ensures ∙ on-line c.args.line
