-- `binary32::pattern` meets its contract.
use Rattle.std.proofs.Common.{sym, ◌∙◌}
use Rattle.binary32.proofs.Casting.{nan_pattern}
use Rattle.binary32.proofs.pattern.Goals as goal

pub returns-then-is_nan : goal.returns-then-is_nan
returns-then-is_nan c = nan_pattern c.args.x (sym c.is_nan.ensures.value ∙ c.if-is_nan.true)
