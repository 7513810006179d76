-- `thin::over` meets its contract.
use mathlib.Core.Path.{refl, sym, subst}
use lib.Dec.{T}
use lib.Ieee.{binary32, fits, of_bits}
use Rattle.thin.proofs.Bounding.{over-found, over_none}
use Rattle.thin.proofs.bounds.over.Goals as goal

pub returns-then-sqrtf-tolerance : goal.returns-then-sqrtf-tolerance
returns-then-sqrtf-tolerance c =
    let held : T (fits binary32 c.args.x) = subst T (sym c.well_formed.0.1) tt in
    over-found held c.sqrtf.ensures c.if-sqrtf-tolerance.true

pub returns : goal.returns
unfolding of_bits
returns c = over_none refl
