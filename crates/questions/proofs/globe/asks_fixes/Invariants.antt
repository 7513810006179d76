-- `questions::globe::asks_fixes` meets its contract: none of those passed says no.
use Rattle.std.specs.Slice.Iter.{iter_rest}
use Rattle.std.specs.Iterator.Adapters.{zip_first, zip_second}
use Rattle.questions.proofs.globe.Fixes.{Asking}
use Rattle.questions.proofs.globe.asks_fixes.Given as goal

abbrev pub invariant-loop-lat : goal.invariant-loop-lat
invariant-loop-lat l = Asking l.lats l.lons (iter_rest (zip_first l.lat-iterator)) (iter_rest (zip_second l.lat-iterator))
