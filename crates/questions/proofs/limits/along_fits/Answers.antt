-- `questions::limits::along_fits` meets its contract: no binary32 lies from 10^16 up to the nearest.
use mathlib.Core.Path.{sym, subst}
use lib.Dec.{T}
use lib.Ieee.{binary32, fits, of_bits}
use Rattle.binary32.specs.Arithmetic.{constant}
use Rattle.questions.proofs.Exact.{along_end, along-tested}
use Rattle.questions.proofs.limits.along_fits.Goals as goal

pub returns : goal.returns
unfolding along_end constant of_bits
returns c =
    let held : T (fits binary32 c.args.x) = subst T (sym c.well_formed.0.1) tt in
    along-tested c.args.x held
