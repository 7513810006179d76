-- `binary32::sqrtf` meets its contract: the library's root is `root`.
use Rattle.std.proofs.Common.{T, sym, ◌∙◌, subst}
use Rattle.binary32.proofs.Library.{root-is}
use Rattle.binary32.proofs.sqrtf.Goals as goal

pub returns : goal.returns
returns c = c.sqrt.ensures.value ∙ root-is c.args.x (subst T (sym c.well_formed.0.1) tt)
