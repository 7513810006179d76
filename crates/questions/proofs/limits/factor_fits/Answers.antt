-- `questions::limits::factor_fits` meets its contract: a size is at most the bound where the number lies from the negative bound to the
-- bound, and no binary32 lies between 0.02 and the nearest.
use mathlib.Core.Path.{sym, subst, ◌∙◌}
use lib.Dec.{T}
use lib.Ieee.{binary32, fits, of_bits, neg}
use Rattle.binary32.specs.Arithmetic.{constant}
use Rattle.questions.proofs.Exact.{factor_most, factor-tested}
use Rattle.questions.proofs.limits.Numbers.{sized-within}
use Rattle.questions.proofs.limits.factor_fits.Goals as goal

pub returns : goal.returns
unfolding factor_most constant of_bits neg
returns c =
    let held : T (fits binary32 c.args.x) = subst T (sym c.well_formed.0.1) tt in
    sized-within _ _ c.args.x ∙ factor-tested c.args.x held
